-- `lines::Page::put_signed` meets its contract: below 0, a minus and the magnitude. Assumes nothing.
use mathlib.Core.Path.{◌≡◌, refl, sym, ap, ◌∙◌, subst}
use mathlib.Core.Bool.{Bool, true, false, true≢false, false≢true}
use mathlib.Core.List.{List, [], ◌∷◌, ◌++◌}
use Prim.Native.Nat.{ℕ}
use native.Mathlib.Omega.{arith}
use lib.IntN.{ℤ, pos, negsuc, nat_abs}
use lib.Signed.{lt_z}
use mir.Syntax.{w64}
use mir.Val.{SFits, to_z, of_z}
use mir.ValLaws.{to_z-of_z}
use borrow.Author.Tests.{le-ltb}
use Rattle.lines.specs.declared.Page.{Page}
use Rattle.lines.specs.Text.{minus, decimal_text, signed_text}
use Rattle.lines.specs.Written.{Put}
use Rattle.lines.proofs.Texts.{then}
use Rattle.lines.proofs.Page.put_signed.Goals as goal
use Rattle.lines.proofs.Page.put_signed.Goals.{then-n-lt0, else-n-lt0}

-- the text of a number below 0, and of another
below : (z : ℤ) → lt_z z (pos 0) ≡ true → signed_text z ≡ (minus ∷ []) ++ decimal_text (nat_abs z)
unfolding signed_text
below (pos n) t = absurd (false≢true (sym (le-ltb n 0 (omega arith)) ∙ t))
below (negsuc n) t = refl

not-below : (z : ℤ) → lt_z z (pos 0) ≡ false → signed_text z ≡ decimal_text (nat_abs z)
unfolding signed_text
not-below (pos n) t = refl
not-below (negsuc n) t = absurd (true≢false t)

-- the test, on the number itself
on-itself : (z : ℤ) (b : Bool) → SFits w64 z → lt_z (to_z w64 (of_z w64 z)) (pos 0) ≡ b → lt_z z (pos 0) ≡ b
on-itself z b f t = subst (λ (y : ℤ). lt_z y (pos 0) ≡ b) (to_z-of_z w64 z f) t

-- what was put before the digits, and the digits
pub returns-clause-written : goal.returns-clause-written
returns-clause-written c =
    let z = c.args.n in
    let digits : decimal_text c.unsigned_abs.result ≡ decimal_text (nat_abs z) = ap decimal_text (c.unsigned_abs.ensures.value ∙ ap nat_abs (to_z-of_z w64 z c.ranges.n)) in
    elim c.if-n-lt0.branch [
      | then-n-lt0 w ↦
          subst (λ (l : List ℕ). Put c.args.self.now l c.put_decimal.new.self)
          (ap (λ (t : List ℕ). (minus ∷ []) ++ t) digits ∙ sym (below z (on-itself z true c.ranges.n w.if-n-lt0.true)))
          (then (subst (λ (p : Page). Put c.args.self.now (minus ∷ []) p) (sym w.self-is) w.put.ensures) c.put_decimal.ensures.written)
      | else-n-lt0 w ↦
          subst (λ (l : List ℕ). Put c.args.self.now l c.put_decimal.new.self) (digits ∙ sym (not-below z (on-itself z false c.ranges.n w.if-n-lt0.false)))
          (subst (λ (p : Page). Put p (decimal_text c.unsigned_abs.result) c.put_decimal.new.self) w.self-is c.put_decimal.ensures.written)
    ]
