-- The file record: record 1 of a DAF, and refusals 1 to 4.
use Rattle.std.specs.Prelude.{ℕ, zero, suc, ◌+◌, Bool, true, not, ◌&&◌, ◌||◌, List, [], ◌∷◌, eqb, ltb, length, get_or, Result, Ok, Err}
use Rattle.bits.specs.Bytes.{le32}
use Rattle.refusal.specs.declared.Refusal.TheVariants.{KernelLength, NotDaf, NotLittleEndian, OtherSummaries}
use Rattle.refusal.specs.Order.{Case, case, first_of}
use Rattle.daf.specs.declared.Family.{Family}
use Rattle.daf.specs.declared.Family.TheVariants.{Spk, Pck}
use Rattle.refusal.specs.declared.Refusal.{Refusal}

-- The first n bytes of a word stand in the kernel from byte `at` on.
unfoldable pub agree : List ℕ → ℕ → List ℕ → ℕ → Bool
agree k at word zero = true
agree k at word (suc n) = eqb (get_or k (at + n) 0) (get_or word n 0) && agree k at word n

-- The word stands there.
abbrev pub spells : List ℕ → ℕ → List ℕ → Bool
spells k at word = agree k at word (length word)

-- `DAF/`
abbrev pub id_word : List ℕ
id_word = 68 ∷ 65 ∷ 70 ∷ 47 ∷ []

-- `LTL-IEEE`
abbrev pub format_word : List ℕ
format_word = 76 ∷ 84 ∷ 76 ∷ 45 ∷ 73 ∷ 69 ∷ 69 ∷ 69 ∷ []

-- The whole numbers of a summary: target, center, frame, type and two addresses in an SPK, body frame, reference frame, type and two in a PCK.
abbrev pub ni_of : Family → ℕ
ni_of Spk = 6
ni_of Pck = 5

-- ND at byte 8 is 2, and NI at byte 12 is the family's.
abbrev pub shaped : Family → List ℕ → Bool
shaped f k = eqb (le32 k 8) 2 && eqb (le32 k 12) (ni_of f)

-- Refusals 1 to 4, in their order.
abbrev pub file_cases : Family → List ℕ → List Case
file_cases f k =
    case (ltb (length k) 1024 || ltb 1073741824 (length k)) KernelLength
    ∷ case (not (spells k 0 id_word)) NotDaf
    ∷ case (not (spells k 88 format_word)) NotLittleEndian
    ∷ case (not (shaped f k)) OtherSummaries
    ∷ []

-- FWARD, the number of the first summary record.
abbrev pub fward : List ℕ → ℕ
fward k = le32 k 76

-- What the file record results in.
unfoldable pub file_record : Family → List ℕ → Result ℕ Refusal
file_record f k = first_of (file_cases f k) Err (Ok (fward k))
