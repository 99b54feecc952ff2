-- Answers in the numbers of RULES, "Refusals": what is one is told alike, and number with detail tell which refusal it is. Assumes nothing.
use Prim.Native.Nat.{ℕ, zero, suc}
use mathlib.Core.Path.{◌≡◌, refl, sym, ap, ◌∙◌}
use mathlib.Core.Bool.{false}
use mathlib.Core.List.{List, [], ◌∷◌}
use lib.Dec.{eqb}
use lib.IntN.{ℤ, nat_abs}
use Rattle.refusal.specs.declared.Refusal.{Refusal}
use Rattle.refusal.specs.declared.Refusal.TheVariants.{KernelLength, NotDaf, NotLittleEndian, OtherSummaries, RecordPastEnd, RecordTwice, CountOver25, TooManySummaries, Malformed, EpochNan, NoCoverage, Unsupported, ZeroRadius, TableUnfit, NotFinite, EmptyWindow, NoSegment, InputTooLong, BadRecord, TooManySuppliers, OtherFrame}
use Rattle.refusal.specs.Numbers.{number_of}
use Rattle.refusal.specs.Told.{Numbered, refused_by}

pub in_numbers : {A B : Type 0} (told : A → B) {x y : A} → x ≡ y → (x ≡ y) × (told x ≡ told y)
in_numbers told e = (e, ap told e)

-- two things are one if they are told alike and each can be told back
pub told_back : {A B : Type 0} (told : A → B) (back : B → A) → ((x : A) → back (told x) ≡ x) → (x y : A) → told x ≡ told y → x ≡ y
told_back told back same x y e = sym (same x) ∙ ap back e ∙ same y

-- the refusals of a detail, in order of number from 1 on
abbrev refusals : ℤ → List Refusal
refusals d =
    KernelLength ∷ NotDaf ∷ NotLittleEndian ∷ OtherSummaries ∷ RecordPastEnd ∷ RecordTwice ∷ CountOver25 ∷ TooManySummaries ∷ Malformed (nat_abs d) ∷ EpochNan
    ∷ NoCoverage d ∷ Unsupported d ∷ ZeroRadius (nat_abs d) ∷ TableUnfit ∷ NotFinite ∷ EmptyWindow (nat_abs d) ∷ NoSegment ∷ InputTooLong ∷ BadRecord ∷ TooManySuppliers ∷ OtherFrame ∷ []

abbrev numbered : List Refusal → ℕ → Refusal
numbered [] n = KernelLength
numbered (r ∷ rs) zero = r
numbered (r ∷ rs) (suc zero) = r
numbered (r ∷ rs) (suc (suc n)) = numbered rs (suc n)

-- the refusal of a number and a detail
abbrev pub refusal_of_lem : Numbered → Refusal
refusal_of_lem p = numbered (refusals p.detail) p.number

pub refusal_of : (r : Refusal) → refusal_of_lem (refused_by r) ≡ r
refusal_of KernelLength = refl
refusal_of NotDaf = refl
refusal_of NotLittleEndian = refl
refusal_of OtherSummaries = refl
refusal_of RecordPastEnd = refl
refusal_of RecordTwice = refl
refusal_of CountOver25 = refl
refusal_of TooManySummaries = refl
refusal_of (Malformed segment) = refl
refusal_of EpochNan = refl
refusal_of (NoCoverage body) = refl
refusal_of (Unsupported type) = refl
refusal_of (ZeroRadius segment) = refl
refusal_of TableUnfit = refl
refusal_of NotFinite = refl
refusal_of (EmptyWindow segment) = refl
refusal_of NoSegment = refl
refusal_of InputTooLong = refl
refusal_of BadRecord = refl
refusal_of TooManySuppliers = refl
refusal_of OtherFrame = refl

-- number and detail tell which refusal it is
pub one_refusal : (r s : Refusal) → refused_by r ≡ refused_by s → r ≡ s
one_refusal = told_back refused_by refusal_of_lem refusal_of

-- no refusal has the number 0
pub not_0 : (r : Refusal) → eqb (number_of r) 0 ≡ false
not_0 KernelLength = refl
not_0 NotDaf = refl
not_0 NotLittleEndian = refl
not_0 OtherSummaries = refl
not_0 RecordPastEnd = refl
not_0 RecordTwice = refl
not_0 CountOver25 = refl
not_0 TooManySummaries = refl
not_0 (Malformed segment) = refl
not_0 EpochNan = refl
not_0 (NoCoverage body) = refl
not_0 (Unsupported type) = refl
not_0 (ZeroRadius segment) = refl
not_0 TableUnfit = refl
not_0 NotFinite = refl
not_0 (EmptyWindow segment) = refl
not_0 NoSegment = refl
not_0 InputTooLong = refl
not_0 BadRecord = refl
not_0 TooManySuppliers = refl
not_0 OtherFrame = refl
