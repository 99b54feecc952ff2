-- `interp::reach_at` meets its contract: the first epoch is at the states' end, the last n - 1 places after it. Assumes nothing.
use mathlib.Core.Bool.{true, false}
use Rattle.interp.proofs.Window.{before_first, from_first}
use borrow.Author.Tests.{not-true, not-false}
use borrow.Author.Rules.{rules}
use Rattle.interp.proofs.reach_at.Goals as goal

pub returns-then-not-double_at-et : goal.returns-then-not-double_at-et
returns-then-not-double_at-et c = before_first _ _ _ _ _ c.double_at.ensures c.if-not-double_at-et.true

pub returns-then-double_at-et : goal.returns-then-double_at-et
returns-then-double_at-et c = from_first _ _ _ _ _ c.double_at.ensures _ true c.if-not-double_at-et.false c.double_at-2.ensures c.if-double_at-et.true

pub returns : goal.returns
returns c = from_first _ _ _ _ _ c.double_at.ensures _ false c.if-not-double_at-et.false c.double_at-2.ensures c.if-double_at-et.false
