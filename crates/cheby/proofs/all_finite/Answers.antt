-- `cheby::all_finite` meets its contract: where 0 is at most x - x, x is finite. Assumes nothing.
use lib.Ieee.{binary32}
use Rattle.cheby.proofs.Numbers.{all_four, own_finite}
use Rattle.cheby.proofs.all_finite.Goals as goal

pub returns : goal.returns
returns c = λ h.
    let z = c.args.z in
    let t = all_four _ _ _ _ h in
    rw (own_finite binary32 _ z.a t.0, own_finite binary32 _ z.b t.1, own_finite binary32 _ z.c t.2, own_finite binary32 _ z.d t.3)
