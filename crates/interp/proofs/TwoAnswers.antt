-- Any two answers that the contract of a public function permits are equal. Assumes nothing.
use mathlib.Core.Path.{refl}
use seplogic.Ra.Ura.{Ura}
use base.Logic.{SProp}
use prog.Memory.{Memory}
use prog.Routine.{Routine}
use types.Logic.{Logic}
use contract.Monad.{Fun}
use Rattle.promised.specs.Promised.{Determined}
use Rattle.promised.proofs.Alike.{equal}
use Rattle.interp.specs.contracts.window_size as m-window-size
use Rattle.interp.specs.contracts.window_start as m-window-start
use Rattle.interp.specs.contracts.left_at as m-left-at
use Rattle.interp.specs.contracts.window_at as m-window-at
use Rattle.interp.specs.contracts.type9_at as m-type9-at
use Rattle.interp.specs.contracts.type13_at as m-type13-at
use Rattle.interp.specs.contracts.reach_at as m-reach-at

module _ {M : Type 1} {𝓤 : Ura M} (𝓛 : Logic 𝓤) (mem : Memory → SProp 𝓤) (run : Routine → Fun 𝓤) where
  pub two_window_size : Determined 𝓤 m-window-size.ended (m-window-size.clauses 𝓛 mem run)
  two_window_size κs a g r r' ws ws' = equal 𝓤 refl

  pub two_window_start : Determined 𝓤 m-window-start.ended (m-window-start.clauses 𝓛 mem run)
  two_window_start κs a g r r' ws ws' = equal 𝓤 refl

  pub two_left_at : Determined 𝓤 m-left-at.ended (m-left-at.clauses 𝓛 mem run)
  two_left_at κs a g r r' ws ws' = equal 𝓤 refl

  pub two_window_at : Determined 𝓤 m-window-at.ended (m-window-at.clauses 𝓛 mem run)
  two_window_at κs a g r r' ws ws' = equal 𝓤 refl

  pub two_type9_at : Determined 𝓤 m-type9-at.ended (m-type9-at.clauses 𝓛 mem run)
  two_type9_at κs a g r r' ws ws' = equal 𝓤 refl

  pub two_type13_at : Determined 𝓤 m-type13-at.ended (m-type13-at.clauses 𝓛 mem run)
  two_type13_at κs a g r r' ws ws' = equal 𝓤 refl

  pub two_reach_at : Determined 𝓤 m-reach-at.ended (m-reach-at.clauses 𝓛 mem run)
  two_reach_at κs a g r r' ws ws' = equal 𝓤 refl
