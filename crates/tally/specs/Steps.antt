-- What the small functions of the code do.
use Rattle.std.specs.Prelude.{ℕ, suc, ◌≤◌, ◌<◌, ◌≡◌, List, ◌∷◌, ◌++◌, length, get_or, take, drop}
use Rattle.tally.specs.declared.Line.{Line}
use Rattle.tally.specs.Usage.{suppliers_of, lines_of}
use Rattle.tally.specs.Faults.{supplier_limit}
use Rattle.tally.specs.Statement.{no_line, padded}

-- The supplier of line k.
abbrev pub supplier_on : List Line → ℕ → ℕ
supplier_on lines k = (get_or lines k no_line).supplier

-- The suppliers of the lines rise.
abbrev pub Rising : List Line → Type 0
Rising lines = (i j : ℕ) → i < j → j < length lines → supplier_on lines i < supplier_on lines j

-- The suppliers of the lines before place p are below x, and those from there on aren't.
pub record Place (lines : List Line) (x p : ℕ) : Type 0 where
  pub within : p ≤ length lines
  pub below : (k : ℕ) → k < p → supplier_on lines k < x
  pub beyond : (k : ℕ) → p ≤ k → k < length lines → x ≤ supplier_on lines k

-- A line put in at place p of the first n: those from there on have moved up by one.
abbrev pub put_in : List Line → ℕ → ℕ → Line → List Line
put_in lines n p line = take p lines ++ (line ∷ (drop p (take n lines) ++ drop (suc n) lines))

-- The lines are those of the first n records.
pub record Tallied (file : List ℕ) (n : ℕ) (lines : List Line) (known : ℕ) : Type 0 where
  pub few : known ≤ supplier_limit
  pub many : known ≡ length (suppliers_of file n)
  pub held : lines ≡ padded (lines_of file n)
