-- `frame::State::is_finite` meets its contract: where the sum of all six is finite each is. Assumes nothing.
use mathlib.Core.Path.{◌≡◌, refl, sym, ◌∙◌}
use lib.Ieee.{binary64}
use Rattle.bits.specs.F64.{◌⊕◌}
use Rattle.bits.proofs.Finite.{finite_order, sum_finite}
use Rattle.frame.specs.State.{finite_state}
use borrow.Author.Rules.{rules}
use Rattle.frame.proofs.State.is_finite.Goals as goal

pub returns-then-total : goal.returns-then-total
unfolding finite_state
returns-then-total c =
    let s = c.args.self in
    let odd = s.x ⊕ s.z ⊕ s.vy in
    let even = s.y ⊕ s.vx ⊕ s.vz in
    let both = sum_finite binary64 odd even (sym (finite_order _) ∙ c.if-total.true) in
    let a = sum_finite binary64 (s.x ⊕ s.z) s.vy both.0 in
    let b = sum_finite binary64 (s.y ⊕ s.vx) s.vz both.1 in
    let first = sum_finite binary64 s.x s.z a.0 in
    let second = sum_finite binary64 s.y s.vx b.0 in
    rw (first.0, second.0, first.1, second.1, a.1, b.1) refl
