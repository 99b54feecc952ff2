-- What the tests of refusal 9 result in, one law for each way through them. Assumes nothing.
use Prim.Native.Nat.{ℕ}
use mathlib.Core.Path.{◌≡◌}
use mathlib.Core.Bool.{Bool, true, false, cond}
use mathlib.Core.List.{List}
use lib.Dec.{ltb}
use lib.IntN.{nat_abs}
use Rattle.daf.specs.Addresses.{whole_doubles}
use Rattle.daf.specs.declared.Family.{Family}
use Rattle.segment.specs.Kinds.{form_of, trailer_at, kind_with, kind_of}
use Rattle.segment.specs.Malformed.{limit_nan, misplaced, length_of, trailer_size, bad_trailer, malformed, found}
use Rattle.segment.specs.declared.Form.{Form}
use Rattle.segment.specs.declared.Kind.TheVariants.{Unsupported}
use Rattle.segment.specs.declared.Trailer.{Trailer}
use Rattle.segment.specs.declared.Segment.{Segment}
use Rattle.std.proofs.Common.{Some, None}

module _ (f : Family) (k : List ℕ) (s : Segment) where
  pub found_nan : limit_nan s.first s.last ≡ true → None ≡ found f k s
  unfolding found malformed kind_of
  found_nan e = rw e

  module _ (n : limit_nan s.first s.last ≡ false) where
    pub found_other : form_of f s.data_type ≡ None → Some Unsupported ≡ found f k s
    unfolding found malformed kind_of
    found_other e = rw (n, e)

    -- the code's own form, which is that of the definition
    module _ (form : Form) (p : form_of f s.data_type ≡ Some form) where
      pub found_misplaced : misplaced (whole_doubles k) s.start s.end ≡ true → None ≡ found f k s
      unfolding found malformed kind_of
      found_misplaced e = rw (n, p, e)

      module _ (m : misplaced (whole_doubles k) s.start s.end ≡ false) where
        -- its addresses and trailer
        module _ (a e : ℕ) (q : a ≡ nat_abs s.start) (r : e ≡ nat_abs s.end) where
          pub found_short : ltb (length_of a e) (trailer_size form) ≡ true → None ≡ found f k s
          unfolding found malformed kind_of
          found_short h = rw (n, p, m, rw (q, r) at h)

          pub found_trailer : (t : Trailer) (b : Bool) → ltb (length_of a e) (trailer_size form) ≡ false → t ≡ trailer_at k form e → bad_trailer form t (length_of a e) ≡ b
              → found f k s ≡ cond b None (Some (kind_with form t))
          unfolding found malformed kind_of
          found_trailer t b h u g = rw (n, p, m, u, r, rw (q, r) at h, rw (u, q, r) at g)
