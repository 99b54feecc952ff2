-- `records::fit` meets its contract. The loop's invariant: the first i records have their mark. Assumes nothing.
use mathlib.Core.Path.{◌≡◌, refl, sym, ◌∙◌, subst}
use mathlib.Core.Bool.{true, false}
use Prim.Native.Nat.{ℕ, ◌/◌}
use native.Mathlib.Omega.{arith}
use lib.ListN.{length}
use Rattle.records.specs.Records.{all_marked}
use Rattle.records.proofs.Laws.{one_more, one_less, cut_short_lem, whole_file}
use Rattle.records.proofs.fit.Goals as goal

pub returns-then-s-size-ne0 : goal.returns-then-s-size-ne0
returns-then-s-size-ne0 c = let a = c.args in sym (cut_short_lem a.size a.mark a.s.now c.if-s-size-ne0.true)

pub loop-i-init : goal.loop-i-init
unfolding all_marked
loop-i-init c = refl

pub returns-then-not-is_marked : goal.returns-then-not-is_marked
returns-then-not-is_marked c =
    let a = c.args in
    sym (whole_file a.size a.mark a.s.now false c.if-s-size-ne0.false
    (one_less a.size a.mark a.s.now (length a.s.now / a.size) c.loop-i.i (omega arith)
    (sym c.is_marked.ensures ∙ c.if-not-is_marked.true)))

pub loop-i-preserved : goal.loop-i-preserved
loop-i-preserved c =
    let a = c.args in
    one_more a.size a.mark a.s.now c.loop-i.i c.loop-i.invariant (sym c.is_marked.ensures ∙ c.if-not-is_marked.false)

pub returns : goal.returns
returns c =
    let a = c.args in
    sym (whole_file a.size a.mark a.s.now true c.if-s-size-ne0.false
    (subst (λ (k : ℕ). all_marked a.size a.mark a.s.now k ≡ true) (omega arith) c.loop-i.invariant))
