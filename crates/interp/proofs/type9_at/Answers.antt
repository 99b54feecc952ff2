-- `interp::type9_at` meets its contract: what the calls ensure, put together. Assumes nothing.
use Rattle.interp.specs.Discrete.{type9_of}
use Rattle.interp.proofs.type9_at.Goals as goal

pub returns : goal.returns
unfolding type9_of
returns c = rw (c.lagrange_at.ensures, c.records_at-w.ensures.value)
