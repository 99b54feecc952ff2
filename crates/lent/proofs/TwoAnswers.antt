-- Any two answers that the contract of a public function permits are equal. Assumes nothing.
use mathlib.Core.Path.{refl, sym, ◌∙◌}
use mathlib.Core.Bool.{Bool}
use mathlib.Core.List.{List}
use Prim.Native.Nat.{ℕ}
use seplogic.Ra.Ura.{Ura}
use mir.Syntax.{Dict}
use base.Logic.{SProp}
use prog.Memory.{Memory}
use prog.Routine.{Routine}
use types.Logic.{Logic}
use contract.Monad.{Fun}
use denote.RattleType.{RattleType}
use denote.Ref.{Bor}
use Rattle.std.specs.Fn.{Shared}
use Rattle.promised.specs.Promised.{Determined, DeterminedAs}
use Rattle.promised.proofs.Alike.{alike, both, equal, first_alike, first_equal}
use Rattle.segment.specs.declared.Segment.{Segment}
use Rattle.lent.specs.contracts.segment_at as m-segment-at
use Rattle.lent.specs.contracts.table_len as m-table-len
use Rattle.lent.specs.contracts.segment_or as m-segment-or
use Rattle.lent.specs.contracts.state as m-state
use Rattle.lent.specs.contracts.state_in as m-state-in
use Rattle.lent.specs.contracts.name as m-name
use Rattle.lent.specs.contracts.alone as m-alone
use Rattle.lent.specs.contracts.put_segment as m-put-segment
use Rattle.lent.specs.contracts.fill as m-fill
use Rattle.lent.specs.contracts.mark_by as m-mark-by
use Rattle.lent.specs.contracts.mark_all as m-mark-all
use Rattle.lent.specs.contracts.carry_out as m-carry-out
use Rattle.lent.specs.contracts.open as m-open
use Rattle.lent.specs.contracts.orient as m-orient
use Rattle.lent.specs.contracts.orient_alone as m-orient-alone

module _ {M : Type 1} {𝓤 : Ura M} (𝓛 : Logic 𝓤) (mem : Memory → SProp 𝓤) (run : Routine → Fun 𝓤) where
  pub two_segment_at : Determined 𝓤 m-segment-at.ended (m-segment-at.clauses 𝓛 mem run)
  two_segment_at κs a g r r' ws ws' = equal 𝓤 refl

  pub two_table_len : Determined 𝓤 m-table-len.ended (m-table-len.clauses 𝓛 mem run)
  two_table_len κs a g r r' ws ws' = equal 𝓤 refl

  pub two_segment_or : Determined 𝓤 m-segment-or.ended (m-segment-or.clauses 𝓛 mem run)
  two_segment_or κs a g r r' ws ws' = equal 𝓤 refl

  pub two_state : Determined 𝓤 m-state.ended (m-state.clauses 𝓛 mem run)
  two_state κs a g r r' ws ws' = first_equal 𝓤 refl

  pub two_state_in : Determined 𝓤 m-state-in.ended (m-state-in.clauses 𝓛 mem run)
  two_state_in κs a g r r' ws ws' = first_equal 𝓤 refl

  pub two_name : DeterminedAs 𝓤 m-name.ended (λ κs. List ℕ) (λ κs r. r.now) (m-name.clauses 𝓛 mem run)
  two_name κs a g r r' ws ws' = equal 𝓤 refl

  pub two_alone : Determined 𝓤 m-alone.ended (m-alone.clauses 𝓛 mem run)
  two_alone κs a g r r' ws ws' = first_equal 𝓤 refl

  pub two_put_segment : Determined 𝓤 m-put-segment.ended (m-put-segment.clauses 𝓛 mem run)
  two_put_segment κs a g r r' ws ws' = alike 𝓤 (λ e e'. (refl, both (e ∙ sym e') refl))

  pub two_fill : Determined 𝓤 m-fill.ended (m-fill.clauses 𝓛 mem run)
  two_fill κs a g r r' ws ws' = alike 𝓤 (λ e e'. (refl, both (e ∙ sym e') refl))

  pub two_mark_by : (R : RattleType) (tells : Shared R.Denot (Bor (List Segment) × (Segment × (ℕ × Unit {0}))) Bool) (d₁ d₂ d₃ d₄ : Dict)
      → Determined 𝓤 (m-mark-by.ended R tells d₁ d₂ d₃ d₄) (m-mark-by.clauses R tells d₁ d₂ d₃ d₄ 𝓛 mem run)
  two_mark_by R tells d₁ d₂ d₃ d₄ κs a g r r' ws ws' = alike 𝓤 (λ e e'. (refl, both (e ∙ sym e') refl))

  pub two_mark_all : Determined 𝓤 m-mark-all.ended (m-mark-all.clauses 𝓛 mem run)
  two_mark_all κs a g r r' ws ws' = alike 𝓤 (λ e e'. (refl, both (e ∙ sym e') refl))

  pub two_carry_out : Determined 𝓤 m-carry-out.ended (m-carry-out.clauses 𝓛 mem run)
  two_carry_out κs a g r r' ws ws' = alike 𝓤 (λ e e'. (refl, both (e ∙ sym e') refl))

  pub two_open : Determined 𝓤 m-open.ended (m-open.clauses 𝓛 mem run)
  two_open κs a g r r' ws ws' = first_alike 𝓤 (λ e e'. (e.0 ∙ sym e'.0, both (e.1 ∙ sym e'.1) refl))

  pub two_orient : Determined 𝓤 m-orient.ended (m-orient.clauses 𝓛 mem run)
  two_orient κs a g r r' ws ws' = first_equal 𝓤 refl

  pub two_orient_alone : Determined 𝓤 m-orient-alone.ended (m-orient-alone.clauses 𝓛 mem run)
  two_orient_alone κs a g r r' ws ws' = first_equal 𝓤 refl
