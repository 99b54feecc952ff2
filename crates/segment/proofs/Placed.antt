-- What the tests of a segment's addresses tell. Assumes nothing.
use Prim.Native.Nat.{ℕ, ◌*◌, ◌/◌, ◌^◌, ◌≤◌, ◌<◌}
use mathlib.Core.Path.{◌≡◌, sym, ◌∙◌, ap₂}
use mathlib.Core.Bool.{true, false, ◌||◌, true≢false}
use native.Mathlib.Omega.{arith}
use borrow.Author.Tests.{ltb-true, ltb-false, lt-ltb, le-ltb}
use lib.Dec.{T, ltb}
use lib.IntN.{ℤ, pos, negsuc, nat_abs}
use lib.Signed.{lt_z, non_neg}
use mir.Syntax.{w32, w64}
use mir.Val.{Fits, SFits, of_z, to_z}
use mir.ValLaws.{to_z-of_z}
use Rattle.bits.proofs.Tests.{by_test_lem}
use Rattle.segment.specs.Malformed.{misplaced}
use Rattle.segment.proofs.Tests.{or_first, or_second}

-- the machine compares two whole numbers by reading them back from their bits
pub bits_less : (a b : ℤ) → SFits w32 a → SFits w32 b → lt_z (to_z w32 (of_z w32 a)) (to_z w32 (of_z w32 b)) ≡ lt_z a b
bits_less a b fa fb = ap₂ (λ (x y : ℤ). lt_z x y) (to_z-of_z w32 a fa) (to_z-of_z w32 b fb)

-- a whole number that is not negative is a count, of 31 bits
pub count_small : (a : ℤ) → SFits w32 a → T (non_neg a) → nat_abs a < 2 ^ 31
count_small (pos n) f p = f.sfits
count_small (negsuc n) f p = absurd p

-- and may be cast
pub count_cast : (a : ℤ) → SFits w32 a → T (non_neg a) → T (non_neg (to_z w32 (of_z w32 a))) × Fits w64 (nat_abs (to_z w32 (of_z w32 a)))
count_cast a f p =
    rw (to_z-of_z w32 a f) (p, record { fits = let h = count_small a f p in omega arith })

-- what is not under 1 is no negative number, nor is what is not under it
pub not_under : (a b : ℤ) → T (non_neg a) → lt_z b a ≡ false → T (non_neg b)
not_under (pos a) (pos b) p e = tt
not_under (pos a) (negsuc b) p e = absurd (true≢false e)
not_under (negsuc a) b p e = absurd p

-- over a count of eights: over its bytes
pub over_bytes : (n : ℕ) (a : ℤ) → T (non_neg a) → ltb n (8 * nat_abs a) ≡ lt_z (pos (n / 8)) a
over_bytes n (negsuc a) p = absurd p
over_bytes n (pos a) p =
    by_test_lem (ltb n (8 * a)) (λ t. t ∙ sym (lt-ltb (n / 8) a (omega (arith, ltb-true n (8 * a) t)))) (λ t. t ∙ sym (le-ltb (n / 8) a (omega (arith, ltb-false n (8 * a) t))))

-- the addresses of a segment that is not misplaced
pub record Placed (whole : ℕ) (start end : ℤ) : Type 0 where
  pub start_count : T (non_neg start)
  pub end_count : T (non_neg end)
  pub from : 1 ≤ nat_abs start
  pub order : nat_abs start ≤ nat_abs end
  pub within : nat_abs end ≤ whole

pub placed : (whole : ℕ) (start end : ℤ) → misplaced whole start end ≡ false → Placed whole start end
placed w (pos a) (pos e) h =
    let h1 = or_first (ltb a 1 || ltb e a) (ltb w e) h in
    record {
      start_count = tt;
      end_count = tt;
      from = ltb-false a 1 (or_first (ltb a 1) (ltb e a) h1);
      order = ltb-false e a (or_second (ltb a 1) (ltb e a) h1);
      within = ltb-false w e (or_second (ltb a 1 || ltb e a) (ltb w e) h);
    }
placed w (pos a) (negsuc e) h = absurd (true≢false (or_second (ltb a 1) true (or_first (ltb a 1 || true) false h)))
placed w (negsuc a) e h = absurd (true≢false h)
