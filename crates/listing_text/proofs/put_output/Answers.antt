-- `listing_text::put_output` meets its contract: 18 where the kernel is too long, else the listing. Assumes nothing.
use mathlib.Core.Path.{sym, ◌∙◌, subst}
use mathlib.Core.Bool.{true, false}
use mathlib.Core.List.{List}
use Prim.Native.Nat.{ℕ}
use native.Mathlib.Omega.{arith}
use Rattle.lines.specs.Written.{Written}
use Rattle.lines.proofs.Texts.{left}
use Rattle.listing_text.proofs.Texts.{output_text}
use Rattle.listing_text.proofs.Few.{room_most}
use borrow.Author.Rules.{rules}
use Rattle.listing_text.proofs.put_output.Goals as goal

pub put_text-requires : goal.put_text-requires
put_text-requires c =
    omega (arith, room_most c.args.kernel.now (sym c.too_long.ensures ∙ c.if-too_long.false))

pub returns-then-too_long-clause-written : goal.returns-then-too_long-clause-written
returns-then-too_long-clause-written c =
    rw (output_text c.args.kernel.now true (sym c.too_long.ensures ∙ c.if-too_long.true)) (left c.put_refusal.ensures.written (search rules))

pub returns-else-too_long-clause-written : goal.returns-else-too_long-clause-written
returns-else-too_long-clause-written c =
    subst (λ (l : List ℕ). Written c.args.out.now 0 l c.put_text.new.out c.put_text.result)
    (sym (output_text c.args.kernel.now false (sym c.too_long.ensures ∙ c.if-too_long.false))) c.put_text.ensures.written

pub returns-else-too_long-clause-upper_bound : goal.returns-else-too_long-clause-upper_bound
returns-else-too_long-clause-upper_bound c =
    omega (arith, c.put_text.ensures.upper_bound, room_most c.args.kernel.now (sym c.too_long.ensures ∙ c.if-too_long.false))
