-- `spk::early` meets its contract: an answer for each way. Assumes nothing.
use mathlib.Core.Path.{◌≡◌, sym, ap, ◌∙◌}
use Rattle.std.proofs.Common.{Some}
use Rattle.std.specs.Option.{option_map}
use Rattle.std.specs.Result.{result_err}
use Rattle.spk.specs.Answers.{refused_answer}
use Rattle.spk.proofs.Finding.{early_same, early_ready}
use borrow.Author.Rules.{rules}
use Rattle.spk.proofs.early.Goals as goal

pub returns-then-is_same : goal.returns-then-is_same
returns-then-is_same c = ap Some c.same.ensures ∙ early_same _ _ _ (sym c.is_same.ensures ∙ c.if-is_same.true)

pub returns : goal.returns
returns c =
    let given : c.map.result ≡ option_map refused_answer c.err.result = search rules in
    given ∙ ap (option_map refused_answer) (c.err.ensures.value ∙ ap result_err c.ready.ensures) ∙ early_ready _ _ _ (sym c.is_same.ensures ∙ c.if-is_same.false)
