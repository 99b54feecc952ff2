-- Any two answers that the contract of a public function permits are equal. Assumes nothing.
use mathlib.Core.Path.{refl}
use seplogic.Ra.Ura.{Ura}
use base.Logic.{SProp}
use prog.Memory.{Memory}
use prog.Routine.{Routine}
use types.Logic.{Logic}
use contract.Monad.{Fun}
use Rattle.promised.specs.Promised.{Determined}
use Rattle.promised.proofs.Alike.{equal}
use Rattle.bits.specs.contracts.le_u32 as m-le-u32
use Rattle.bits.specs.contracts.signed as m-signed
use Rattle.bits.specs.contracts.le_i32 as m-le-i32
use Rattle.bits.specs.contracts.le_u64 as m-le-u64
use Rattle.bits.specs.contracts.double_of as m-double-of
use Rattle.bits.specs.contracts.double_at as m-double-at
use Rattle.bits.specs.contracts.cut_bits as m-cut-bits
use Rattle.bits.specs.contracts.cut_u64 as m-cut-u64
use Rattle.bits.specs.contracts.cut_u32 as m-cut-u32
use Rattle.bits.specs.contracts.record_index as m-record-index
use Rattle.bits.specs.contracts.record_of_few as m-record-of-few
use Rattle.bits.specs.contracts.same_bits as m-same-bits
use Rattle.bits.specs.contracts.has_bits as m-has-bits
use Rattle.bits.specs.contracts.has_whole as m-has-whole
use Rattle.bits.specs.contracts.Reach.is_stretched as m-reach-is-stretched
use Rattle.bits.specs.contracts.reach_of as m-reach-of
use Rattle.bits.specs.contracts.reach_of_few as m-reach-of-few

module _ {M : Type 1} {𝓤 : Ura M} (𝓛 : Logic 𝓤) (mem : Memory → SProp 𝓤) (run : Routine → Fun 𝓤) where
  pub two_le_u32 : Determined 𝓤 m-le-u32.ended (m-le-u32.clauses 𝓛 mem run)
  two_le_u32 κs a g r r' ws ws' = equal 𝓤 refl

  pub two_signed : Determined 𝓤 m-signed.ended (m-signed.clauses 𝓛 mem run)
  two_signed κs a g r r' ws ws' = equal 𝓤 refl

  pub two_le_i32 : Determined 𝓤 m-le-i32.ended (m-le-i32.clauses 𝓛 mem run)
  two_le_i32 κs a g r r' ws ws' = equal 𝓤 refl

  pub two_le_u64 : Determined 𝓤 m-le-u64.ended (m-le-u64.clauses 𝓛 mem run)
  two_le_u64 κs a g r r' ws ws' = equal 𝓤 refl

  pub two_double_of : Determined 𝓤 m-double-of.ended (m-double-of.clauses 𝓛 mem run)
  two_double_of κs a g r r' ws ws' = equal 𝓤 refl

  pub two_double_at : Determined 𝓤 m-double-at.ended (m-double-at.clauses 𝓛 mem run)
  two_double_at κs a g r r' ws ws' = equal 𝓤 refl

  pub two_cut_bits : Determined 𝓤 m-cut-bits.ended (m-cut-bits.clauses 𝓛 mem run)
  two_cut_bits κs a g r r' ws ws' = equal 𝓤 refl

  pub two_cut_u64 : Determined 𝓤 m-cut-u64.ended (m-cut-u64.clauses 𝓛 mem run)
  two_cut_u64 κs a g r r' ws ws' = equal 𝓤 refl

  pub two_cut_u32 : Determined 𝓤 m-cut-u32.ended (m-cut-u32.clauses 𝓛 mem run)
  two_cut_u32 κs a g r r' ws ws' = equal 𝓤 refl

  pub two_record_index : Determined 𝓤 m-record-index.ended (m-record-index.clauses 𝓛 mem run)
  two_record_index κs a g r r' ws ws' = equal 𝓤 refl

  pub two_record_of_few : Determined 𝓤 m-record-of-few.ended (m-record-of-few.clauses 𝓛 mem run)
  two_record_of_few κs a g r r' ws ws' = equal 𝓤 refl

  pub two_same_bits : Determined 𝓤 m-same-bits.ended (m-same-bits.clauses 𝓛 mem run)
  two_same_bits κs a g r r' ws ws' = equal 𝓤 refl

  pub two_has_bits : Determined 𝓤 m-has-bits.ended (m-has-bits.clauses 𝓛 mem run)
  two_has_bits κs a g r r' ws ws' = equal 𝓤 refl

  pub two_has_whole : Determined 𝓤 m-has-whole.ended (m-has-whole.clauses 𝓛 mem run)
  two_has_whole κs a g r r' ws ws' = equal 𝓤 refl

  pub two_reach_is_stretched : Determined 𝓤 m-reach-is-stretched.ended (m-reach-is-stretched.clauses 𝓛 mem run)
  two_reach_is_stretched κs a g r r' ws ws' = equal 𝓤 refl

  pub two_reach_of : Determined 𝓤 m-reach-of.ended (m-reach-of.clauses 𝓛 mem run)
  two_reach_of κs a g r r' ws ws' = equal 𝓤 refl

  pub two_reach_of_few : Determined 𝓤 m-reach-of-few.ended (m-reach-of-few.clauses 𝓛 mem run)
  two_reach_of_few κs a g r r' ws ws' = equal 𝓤 refl
