-- Where the count fits and no segment of the table is refused with 14, no question of any kind is. Assumes nothing.
use Prim.Native.Nat.{ℕ, ◌≤◌, ◌<◌}
use mathlib.Core.Path.{◌≡◌}
use mathlib.Core.List.{List}
use lib.Ieee.{Float}
use Rattle.refusal.specs.declared.Refusal.TheVariants.{TableUnfit}
use Rattle.segment.specs.declared.Segment.{Segment}
use Rattle.std.proofs.Common.{Err}
use Rattle.table.specs.Segments.{seg}
use Rattle.chain.specs.Step.{Evaluation}
use Rattle.chain.proofs.Ends.{clash}
use Rattle.spk.specs.Choosing.{Memory}
use Rattle.spk.specs.declared.Way.TheVariants as ways
use Rattle.spk.specs.Runs.{Asking, Plain, InFrame, Single, replied}
use Rattle.spk.proofs.Exactly.{never_14}
use Rattle.spk.proofs.ExactlyIn.{in_never}
use Rattle.spk.proofs.ExactlyAlone.{alone_never_14}

pub replied_never_14 : (limit : ℕ) (ev : Evaluation) (segs : List Segment) (n : ℕ) → n ≤ limit
    → ((i : ℕ) → i < n → (et : Float) → ev (seg segs i) i et ≡ Err TableUnfit → ⊥) → (m : Memory) (a : Asking)
    → (replied limit ev segs n m a).answer.way ≡ ways.Refused TableUnfit → ⊥
replied_never_14 limit ev segs n le fit m (Plain q) = never_14 limit ev segs n m q le fit
replied_never_14 limit ev segs n le fit m (InFrame q wanted rot) =
    in_never limit ev segs n m q rot wanted TableUnfit (λ e. clash (cc), λ e. clash (cc)) (never_14 limit ev segs n m q le fit)
replied_never_14 limit ev segs n le fit m (Single i et) = alone_never_14 limit ev segs n i et le fit
