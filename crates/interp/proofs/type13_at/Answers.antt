-- `interp::type13_at` meets its contract: what the calls ensure, put together. Assumes nothing.
use Rattle.interp.specs.Discrete.{type13_of}
use Rattle.interp.proofs.type13_at.Goals as goal

pub returns : goal.returns
unfolding type13_of
returns c = rw (c.hermite_at.ensures, c.records_at-w.ensures.value)
