-- Laws of the file record, one for each way through `file_record`, and of the opening as a whole. Assumes nothing.
use Rattle.std.proofs.Common.{Result, Ok, Err}
use Prim.Native.Nat.{ℕ, ◌≤◌, ◌<◌}
use mathlib.Core.Path.{◌≡◌, ap, ◌∙◌}
use mathlib.Core.Bool.{true, false, not, ◌||◌}
use mathlib.Core.List.{List}
use borrow.Author.Tests.{lt-ltb, le-ltb}
use lib.Dec.{ltb}
use lib.ListN.{length}
use Rattle.bits.proofs.Tests.{or_left, or_right, or_none}
use Rattle.refusal.specs.declared.Refusal.{Refusal}
use Rattle.refusal.specs.declared.Refusal.TheVariants.{KernelLength, NotDaf, NotLittleEndian, OtherSummaries}
use Rattle.refusal.proofs.Exactly.{given_where, answer_where, first_append, first_through}
use Rattle.daf.specs.FileRecord.{spells, id_word, format_word, shaped, file_cases, fward, file_record}
use Rattle.daf.specs.Opening.{walk_cases, daf_of, opening}
use Rattle.daf.specs.Steps.{walk_opened}
use Rattle.daf.specs.declared.Family.{Family}
use Rattle.daf.specs.declared.Daf.{Daf}

module _ (f : Family) (k : List ℕ) where
  pub too_short : length k < 1024 → file_record f k ≡ Err KernelLength
  unfolding file_record
  too_short h = given_where Err (Ok (fward k)) (file_cases f k) 0 (or_left (ltb (length k) 1024) _ (lt-ltb _ _ h))

  pub too_long_lem : 1073741824 < length k → file_record f k ≡ Err KernelLength
  unfolding file_record
  too_long_lem h = given_where Err (Ok (fward k)) (file_cases f k) 0 (or_right (ltb (length k) 1024) _ (lt-ltb _ _ h))

  module _ (least : 1024 ≤ length k) (most : length k ≤ 1073741824) where
    sized : (ltb (length k) 1024 || ltb 1073741824 (length k)) ≡ false
    sized = or_none _ _ (le-ltb _ _ least) (le-ltb _ _ most)

    pub other_id : not (spells k 0 id_word) ≡ true → file_record f k ≡ Err NotDaf
    unfolding file_record
    other_id h = given_where Err (Ok (fward k)) (file_cases f k) 1 (sized, h)

    module _ (id : not (spells k 0 id_word) ≡ false) where
      pub other_format : not (spells k 88 format_word) ≡ true → file_record f k ≡ Err NotLittleEndian
      unfolding file_record
      other_format h = given_where Err (Ok (fward k)) (file_cases f k) 2 (sized, (id, h))

      module _ (format : not (spells k 88 format_word) ≡ false) where
        pub other_shape : not (shaped f k) ≡ true → file_record f k ≡ Err OtherSummaries
        unfolding file_record
        other_shape h = given_where Err (Ok (fward k)) (file_cases f k) 3 (sized, (id, (format, h)))

        pub file_fine : not (shaped f k) ≡ false → file_record f k ≡ Ok (fward k)
        unfolding file_record
        file_fine h = answer_where Err (Ok (fward k)) (file_cases f k) (sized, (id, (format, (h, tt))))

-- what follows a file record
pub after_head : ℕ → List ℕ → Result ℕ Refusal → Result Daf Refusal
after_head limit k (Ok first) = walk_opened limit k first
after_head limit k (Err r) = Err r

-- the opening is the file record, and then the walk and the counts
pub open_by : (f : Family) (limit : ℕ) (k : List ℕ) → opening f limit k ≡ after_head limit k (file_record f k)
unfolding opening walk_opened after_head file_record
open_by f limit k =
    first_append (file_cases f k) (walk_cases limit k (fward k)) Err (Ok (daf_of k (fward k)))
    ∙ first_through (file_cases f k) Err (Ok (fward k)) (after_head limit k)

pub open_refused : (f : Family) (limit : ℕ) (k : List ℕ) (r : Refusal) → file_record f k ≡ Err r → opening f limit k ≡ Err r
unfolding after_head
open_refused f limit k r e = open_by f limit k ∙ ap (after_head limit k) e

pub open_next : (f : Family) (limit : ℕ) (k : List ℕ) (first : ℕ) → file_record f k ≡ Ok first → opening f limit k ≡ walk_opened limit k first
unfolding after_head
open_next f limit k first e = open_by f limit k ∙ ap (after_head limit k) e
