-- Any two answers that the contract of a public function permits are equal. Assumes nothing.
use mathlib.Core.Path.{◌≡◌, refl, sym, ◌∙◌}
use mathlib.Core.Bool.{Bool}
use mathlib.Core.List.{List}
use Prim.Native.Nat.{ℕ}
use seplogic.Ra.Ura.{Ura}
use mir.Syntax.{Dict}
use base.Logic.{SProp}
use prog.Memory.{Memory}
use prog.Routine.{Routine}
use types.Logic.{Logic}
use contract.Monad.{Fun}
use denote.RattleType.{RattleType}
use denote.Ref.{Bor}
use Rattle.std.specs.Prelude.{length}
use Rattle.std.specs.Fn.{Shared, FnReturnsAt}
use Rattle.std.specs.declared.iter.Iterator.{Ghosts}
use Rattle.promised.specs.Promised.{Determined, DeterminedAs, DeterminedWhere}
use Rattle.promised.proofs.Alike.{alike, equal}
use Rattle.segment.specs.declared.Segment.{Segment}
use Rattle.table.specs.Visits.{Visits}
use Rattle.table.specs.contracts.Table.empty as m-table-empty
use Rattle.table.specs.contracts.is_covering as m-is-covering
use Rattle.table.specs.contracts.no_segment as m-no-segment
use Rattle.table.specs.contracts.limit_of as m-limit-of
use Rattle.table.specs.contracts.counted as m-counted
use Rattle.table.specs.contracts.ready as m-ready
use Rattle.table.specs.contracts.marked_by as m-marked-by
use Rattle.table.specs.contracts.name_in as m-name-in
use Rattle.table.specs.contracts.first_where as m-first-where
use Rattle.table.specs.contracts.any_rival as m-any-rival

module _ {M : Type 1} {𝓤 : Ura M} (𝓛 : Logic 𝓤) (mem : Memory → SProp 𝓤) (run : Routine → Fun 𝓤) where
  pub two_table_empty : Determined 𝓤 m-table-empty.ended (m-table-empty.clauses 𝓛 mem run)
  two_table_empty κs a g r r' ws ws' = equal 𝓤 refl

  pub two_is_covering : Determined 𝓤 m-is-covering.ended (m-is-covering.clauses 𝓛 mem run)
  two_is_covering κs a g r r' ws ws' = equal 𝓤 refl

  pub two_no_segment : Determined 𝓤 m-no-segment.ended (m-no-segment.clauses 𝓛 mem run)
  two_no_segment κs a g r r' ws ws' = equal 𝓤 refl

  pub two_limit_of : Determined 𝓤 m-limit-of.ended (m-limit-of.clauses 𝓛 mem run)
  two_limit_of κs a g r r' ws ws' = equal 𝓤 refl

  pub two_counted : Determined 𝓤 m-counted.ended (m-counted.clauses 𝓛 mem run)
  two_counted κs a g r r' ws ws' = equal 𝓤 refl

  pub two_ready : Determined 𝓤 m-ready.ended (m-ready.clauses 𝓛 mem run)
  two_ready κs a g r r' ws ws' = equal 𝓤 refl

  pub two_marked_by : Determined 𝓤 m-marked-by.ended (m-marked-by.clauses 𝓛 mem run)
  two_marked_by κs a g r r' ws ws' = equal 𝓤 refl

  pub two_name_in : DeterminedAs 𝓤 m-name-in.ended (λ κs. List ℕ) (λ κs r. r.now) (m-name-in.clauses 𝓛 mem run)
  two_name_in κs a g r r' ws ws' = equal 𝓤 refl

  -- where the iterator gives some list of numbers, and the closure computes some test
  pub two_first_where : (I F : RattleType) (it : Ghosts I.Denot ℕ) (d : Dict) (test : Shared F.Denot (Bor Segment × Unit {0}) Bool) (d₁ d₂ d₃ d₄ d₅ : Dict)
      → DeterminedWhere 𝓤 (m-first-where.ended I F it d test d₁ d₂ d₃ d₄ d₅)
      (λ κs a. (xs : List ℕ) × (p : Segment → Bool) × Visits it.next_gives a.1.0 (length a.0.now) xs × ((s : Segment) (b : Bool) → FnReturnsAt test a.1.1.0 s b → b ≡ p s))
      (m-first-where.clauses I F it d test d₁ d₂ d₃ d₄ d₅ 𝓛 mem run)
  two_first_where I F it d test d₁ d₂ d₃ d₄ d₅ κs a w g r r' ws ws' = alike 𝓤 (λ h h'. (h w.0 w.1 w.2 w.3 ∙ sym (h' w.0 w.1 w.2 w.3), refl))

  -- where the iterator gives some list of numbers
  pub two_any_rival : (I : RattleType) (it : Ghosts I.Denot ℕ) (d d₁ : Dict)
      → DeterminedWhere 𝓤 (m-any-rival.ended I it d d₁) (λ κs a. (xs : List ℕ) × Visits it.next_gives a.1.0 (length a.0.now) xs) (m-any-rival.clauses I it d d₁ 𝓛 mem run)
  two_any_rival I it d d₁ κs a w g r r' ws ws' = alike 𝓤 (λ h h'. (h w.0 w.1 ∙ sym (h' w.0 w.1), refl))
