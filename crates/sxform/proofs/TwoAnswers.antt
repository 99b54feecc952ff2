-- Any two answers that the contract of a public function permits are equal. Assumes nothing.
use mathlib.Core.Path.{refl}
use seplogic.Ra.Ura.{Ura}
use base.Logic.{SProp}
use prog.Memory.{Memory}
use prog.Routine.{Routine}
use types.Logic.{Logic}
use contract.Monad.{Fun}
use Rattle.promised.specs.Promised.{Determined}
use Rattle.promised.proofs.Alike.{equal}
use Rattle.sxform.specs.contracts.matmul3 as m-matmul3
use Rattle.sxform.specs.contracts.add3 as m-add3
use Rattle.sxform.specs.contracts.sxform_from_rotation as m-sxform-from-rotation
use Rattle.sxform.specs.contracts.invert_sxform as m-invert-sxform
use Rattle.sxform.specs.contracts.apply_sxform as m-apply-sxform

module _ {M : Type 1} {𝓤 : Ura M} (𝓛 : Logic 𝓤) (mem : Memory → SProp 𝓤) (run : Routine → Fun 𝓤) where
  pub two_matmul3 : Determined 𝓤 m-matmul3.ended (m-matmul3.clauses 𝓛 mem run)
  two_matmul3 κs a g r r' ws ws' = equal 𝓤 refl

  pub two_add3 : Determined 𝓤 m-add3.ended (m-add3.clauses 𝓛 mem run)
  two_add3 κs a g r r' ws ws' = equal 𝓤 refl

  pub two_sxform_from_rotation : Determined 𝓤 m-sxform-from-rotation.ended (m-sxform-from-rotation.clauses 𝓛 mem run)
  two_sxform_from_rotation κs a g r r' ws ws' = equal 𝓤 refl

  pub two_invert_sxform : Determined 𝓤 m-invert-sxform.ended (m-invert-sxform.clauses 𝓛 mem run)
  two_invert_sxform κs a g r r' ws ws' = equal 𝓤 refl

  pub two_apply_sxform : Determined 𝓤 m-apply-sxform.ended (m-apply-sxform.clauses 𝓛 mem run)
  two_apply_sxform κs a g r r' ws ws' = equal 𝓤 refl
