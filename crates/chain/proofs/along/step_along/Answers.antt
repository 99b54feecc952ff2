-- A turn takes the iterator's next number, by the laws of `Along`.
use Rattle.std.proofs.Common.{rules, ◌<◌, ◌∙◌, length, sym}
use Rattle.chain.proofs.Visited.{along_in, along_stops, along_more, along_past, along_ends}
use Rattle.chain.proofs.along.step_along.Goals as goal

pub offset_bounds-segments-i : goal.offset_bounds-segments-i
offset_bounds-segments-i g c = let l : c.in-Some.i < length c.args.segments.now = (along_in (length c.args.segments.now) (c.loop-i.invariant.2 _ c.requires.visited.1) _ _ c.in-Some.ensures.steps).0 in search rules

pub bounds-segments-i : goal.bounds-segments-i
bounds-segments-i g c = (along_in (length c.args.segments.now) (c.loop-i.invariant.2 _ c.requires.visited.1) _ _ c.in-Some.ensures.steps).0

pub look-kept-requires : goal.look-kept-requires
look-kept-requires g c = ((along_in (length c.args.segments.now) (c.loop-i.invariant.2 _ c.requires.visited.1) _ _ c.in-Some.ensures.steps).1, sym c.leaves.ensures ∙ c.if-leaves.true)

pub returns-then-is_end : goal.returns-then-is_end
returns-then-is_end g c = λ xs v. along_stops (c.loop-i.invariant.2 xs v) _ _ _ c.in-Some.ensures.steps c.look-kept.ensures (sym c.is_end.ensures ∙ c.if-is_end.true)

pub loop-i-preserved-else-is_end : goal.loop-i-preserved-else-is_end
loop-i-preserved-else-is_end g c = (
  search rules,
  search rules,
  λ xs v. along_more (c.loop-i.invariant.2 xs v) _ _ _ c.in-Some.ensures.steps c.look-kept.ensures (sym c.is_end.ensures ∙ c.if-is_end.false),
)

pub loop-i-preserved : goal.loop-i-preserved
loop-i-preserved g c = (search rules, search rules, λ xs v. along_past (c.loop-i.invariant.2 xs v) _ _ c.in-Some.ensures.steps (sym c.leaves.ensures ∙ c.if-leaves.false))

pub returns : goal.returns
returns g c = λ xs v. along_ends (c.loop-i.invariant.2 xs v) _ c.in-None.ensures.steps
