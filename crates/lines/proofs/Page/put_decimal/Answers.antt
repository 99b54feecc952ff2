-- `lines::Page::put_decimal` meets its contract: the fewest digits are the number's text. Assumes nothing.
use mathlib.Core.Path.{◌∙◌, subst}
use mathlib.Core.List.{List}
use Prim.Native.Nat.{ℕ}
use Rattle.lines.specs.Written.{Put}
use Rattle.lines.proofs.Texts.{decimal_text_lem}
use Rattle.lines.proofs.Page.put_decimal.Goals as goal

-- the digits that `io::decimal` put are the number's text
pub returns-clause-written : goal.returns-clause-written
returns-clause-written c =
    subst (λ (t : List ℕ). Put c.args.self.now t c.put.new.self)
    (c.decimal-k.ensures.digits ∙ decimal_text_lem c.args.n c.decimal-k.result c.ranges.n.fits c.decimal-k.ensures.len) c.put.ensures
