-- Lines of two statements put together, and a file as the list of its records.
use Rattle.std.specs.Prelude.{ℕ, zero, suc, ◌+◌, ◌*◌, cond, List, [], ◌∷◌, ◌++◌, map, eqb, take, drop}
use Rattle.bits.specs.Bytes.{le32}
use Rattle.tally.specs.declared.Line.{Line}
use Rattle.tally.specs.Usage.{usage_size, placed}

-- All counts added up.
abbrev pub sum_of : List Line → ℕ
sum_of [] = 0
sum_of (l ∷ ls) = l.count + sum_of ls

-- The count of a supplier in a statement: 0 where there is no line of his.
abbrev pub count_in : List Line → ℕ → ℕ
count_in [] s = 0
count_in (l ∷ ls) s = cond (eqb l.supplier s) l.count (count_in ls s)

-- The suppliers of both, each once, in order of number.
abbrev pub both : List ℕ → List ℕ → List ℕ
both [] ts = ts
both (s ∷ ss) ts = placed s (both ss ts)

-- Two statements merged: a line for each supplier of either, with his two counts added.
abbrev pub merged : List Line → List Line → List Line
merged a b =
    map (λ (s : ℕ). record { supplier = s; count = count_in a s + count_in b s })
    (both (map (λ (l : Line). l.supplier) a) (map (λ (l : Line). l.supplier) b))

-- Record i of a file, and the first n records in file order.
abbrev pub record_at : List ℕ → ℕ → List ℕ
record_at file i = take usage_size (drop (usage_size * i) file)

unfoldable pub records_of : List ℕ → ℕ → List (List ℕ)
records_of file zero = []
records_of file (suc n) = records_of file n ++ (record_at file n ∷ [])

-- The supplier that a record names, and how many of a list of records name supplier s.
abbrev pub supplier_in : List ℕ → ℕ
supplier_in r = le32 r 4

abbrev pub naming : ℕ → List (List ℕ) → ℕ
naming s [] = 0
naming s (r ∷ rs) = cond (eqb (supplier_in r) s) (suc (naming s rs)) (naming s rs)
