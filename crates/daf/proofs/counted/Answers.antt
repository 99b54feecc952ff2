-- `daf::counted` meets its contract: what was passed has no count over 25, and its sum is `total`. Assumes nothing.
use mathlib.Core.Path.{◌≡◌, refl, sym, ◌∙◌, subst}
use Prim.Native.Nat.{ℕ, ◌+◌, ◌-◌, ◌≤◌, ◌<◌}
use native.Mathlib.Omega.{arith}
use Rattle.daf.specs.Walk.{count_of}
use Rattle.daf.proofs.Counting.{over_yes, over_no, over_none, total_more, total_none, sound_here, sound_next, counted_over, counted_many, counted_fine}
use Rattle.daf.proofs.counted.Goals as goal

-- a count goes from what is left to what was passed
regroup : (all passed left count rest : ℕ) {seen : ℕ} → all ≡ passed + left → left ≡ count + rest → seen ≡ count → all ≡ (passed + seen) + rest
regroup all passed left count rest a b e = omega arith

pub count_of-count-requires : goal.count_of-count-requires
count_of-count-requires c = sound_here c.args.kernel.now _ _ (c.args.n - (c.loop.counter + 1)) (omega arith) c.loop.invariant.2

pub returns-then-count-gt25 : goal.returns-then-count-gt25
returns-then-count-gt25 c =
    let some : 25 < count_of c.args.kernel.now c.loop.r = subst (λ (x : ℕ). 25 < x) c.count_of-count.ensures c.if-count-gt25.true in
    sym (counted_over _ _ _ _ (c.loop.invariant.3 ∙ over_yes _ _ _ (c.args.n - (c.loop.counter + 1)) _ (omega arith) refl some))

pub next_record-r-requires : goal.next_record-r-requires
next_record-r-requires c = sound_here c.args.kernel.now _ _ (c.args.n - (c.loop.counter + 1)) (omega arith) c.loop.invariant.2

pub loop-preserved : goal.loop-preserved
loop-preserved c =
    let few : count_of c.args.kernel.now c.loop.r ≤ 25 = subst (λ (x : ℕ). x ≤ 25) c.count_of-count.ensures c.if-count-gt25.false in (
      omega arith,
      omega arith,
      sound_next _ _ _ (c.args.n - (c.loop.counter + 1)) _ (omega arith) c.next_record-r.ensures c.loop.invariant.2,
      c.loop.invariant.3 ∙ over_no _ _ _ (c.args.n - (c.loop.counter + 1)) _ (omega arith) c.next_record-r.ensures few,
      regroup _ _ _ _ _ c.loop.invariant.4 (total_more _ _ _ (c.args.n - (c.loop.counter + 1)) _ (omega arith) c.next_record-r.ensures) c.count_of-count.ensures,
    )

pub returns-then-limit-total : goal.returns-then-limit-total
returns-then-limit-total c =
    let none = c.loop.invariant.3 ∙ over_none _ _ _ (omega arith) in
    let sum = c.loop.invariant.4 in
    let rest = total_none c.args.kernel.now c.loop.r (c.args.n - c.loop.counter) (omega arith) in
    sym (counted_many _ _ _ _ none (omega arith))

pub returns : goal.returns
returns c =
    let none = c.loop.invariant.3 ∙ over_none _ _ _ (omega arith) in
    let sum = c.loop.invariant.4 in
    let rest = total_none c.args.kernel.now c.loop.r (c.args.n - c.loop.counter) (omega arith) in
    sym (counted_fine _ _ _ _ _ none (omega arith) (omega arith))
