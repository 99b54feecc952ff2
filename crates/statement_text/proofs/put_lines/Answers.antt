-- `statement_text::put_lines` meets its contract. Assumes nothing.
use mathlib.Core.Path.{subst}
use mathlib.Core.List.{List}
use Prim.Native.Nat.{ℕ, ◌+◌}
use native.Mathlib.Omega.{arith}
use lib.ListN.{take}
use lib.Seq.{take_all}
use Rattle.lines.specs.Written.{Put}
use Rattle.lines.proofs.Texts.{then, put_none}
use Rattle.tally.specs.declared.Line.{Line}
use Rattle.statement_text.specs.Text.{lines_text}
use Rattle.statement_text.proofs.Lines.{lines_next}
use Rattle.statement_text.proofs.put_lines.Goals as goal

pub loop-line-init : goal.loop-line-init
unfolding lines_text
loop-line-init c = (omega arith, put_none c.args.page.now)

pub loop-line-preserved : goal.loop-line-preserved
loop-line-preserved c =
    let l = c.loop-line in
    let a = c.args in (
      omega (arith, c.put_line.ensures.upper_bound),
      subst (λ (t : List ℕ). Put a.page.now t c.put_line.new.page) (lines_next a.known.now l.line-index _ (omega arith)) (then l.invariant.1 c.put_line.ensures.written),
    )

pub returns-clause-written : goal.returns-clause-written
returns-clause-written c =
    let l = c.loop-line in
    subst (λ (t : List Line). Put c.args.page.now (lines_text t) l.page) (take_all l.line-index c.args.known.now (omega arith)) l.invariant.1
