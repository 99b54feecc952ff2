-- Any two answers that the contract of a public function permits are equal. Assumes nothing.
use mathlib.Core.Path.{refl}
use mathlib.Core.List.{List}
use Prim.Native.Nat.{ℕ}
use seplogic.Ra.Ura.{Ura}
use base.Logic.{SProp}
use prog.Memory.{Memory}
use prog.Routine.{Routine}
use types.Logic.{Logic}
use contract.Monad.{Fun}
use Rattle.promised.specs.Promised.{Determined, DeterminedAs}
use Rattle.promised.proofs.Alike.{equal}
use Rattle.daf.specs.contracts.Family.ni as m-family-ni
use Rattle.daf.specs.contracts.file_record as m-file-record
use Rattle.daf.specs.contracts.walk as m-walk
use Rattle.daf.specs.contracts.open as m-open
use Rattle.daf.specs.contracts.summary_at as m-summary-at
use Rattle.daf.specs.contracts.Daf.start as m-daf-start
use Rattle.daf.specs.contracts.Cursor.next as m-cursor-next
use Rattle.daf.specs.contracts.name as m-name
use Rattle.daf.specs.contracts.double as m-double
use Rattle.daf.specs.contracts.whole_doubles as m-whole-doubles

module _ {M : Type 1} {𝓤 : Ura M} (𝓛 : Logic 𝓤) (mem : Memory → SProp 𝓤) (run : Routine → Fun 𝓤) where
  pub two_family_ni : Determined 𝓤 m-family-ni.ended (m-family-ni.clauses 𝓛 mem run)
  two_family_ni κs a g r r' ws ws' = equal 𝓤 refl

  pub two_file_record : Determined 𝓤 m-file-record.ended (m-file-record.clauses 𝓛 mem run)
  two_file_record κs a g r r' ws ws' = equal 𝓤 refl

  pub two_walk : Determined 𝓤 m-walk.ended (m-walk.clauses 𝓛 mem run)
  two_walk κs a g r r' ws ws' = equal 𝓤 refl

  pub two_open : Determined 𝓤 m-open.ended (m-open.clauses 𝓛 mem run)
  two_open κs a g r r' ws ws' = equal 𝓤 refl

  pub two_summary_at : Determined 𝓤 m-summary-at.ended (m-summary-at.clauses 𝓛 mem run)
  two_summary_at κs a g r r' ws ws' = equal 𝓤 refl

  pub two_daf_start : Determined 𝓤 m-daf-start.ended (m-daf-start.clauses 𝓛 mem run)
  two_daf_start κs a g r r' ws ws' = equal 𝓤 refl

  pub two_cursor_next : Determined 𝓤 m-cursor-next.ended (m-cursor-next.clauses 𝓛 mem run)
  two_cursor_next κs a g r r' ws ws' = equal 𝓤 refl

  pub two_name : DeterminedAs 𝓤 m-name.ended (λ κs. List ℕ) (λ κs r. r.now) (m-name.clauses 𝓛 mem run)
  two_name κs a g r r' ws ws' = equal 𝓤 refl

  pub two_double : Determined 𝓤 m-double.ended (m-double.clauses 𝓛 mem run)
  two_double κs a g r r' ws ws' = equal 𝓤 refl

  pub two_whole_doubles : Determined 𝓤 m-whole-doubles.ended (m-whole-doubles.clauses 𝓛 mem run)
  two_whole_doubles κs a g r r' ws ws' = equal 𝓤 refl
