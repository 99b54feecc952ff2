-- `interp::window_at` meets its contract: what the three calls ensure, put together. Assumes nothing.
use Rattle.interp.specs.Discrete.{window_at}
use Rattle.interp.proofs.Window.{size_some, size_most}
use borrow.Author.Rules.{rules}
use Rattle.interp.proofs.window_at.Goals as goal

pub window_start-requires : goal.window_start-requires
window_start-requires c =
    let args = c.args in
    rw c.window_size.ensures (size_some args.degree args.n c.requires.0, size_most args.degree args.n)

pub returns : goal.returns
unfolding window_at
returns c = rw (c.window_start.ensures, c.window_size.ensures, c.left_at-l.ensures)
