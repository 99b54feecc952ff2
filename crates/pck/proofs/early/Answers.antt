-- `pck::early` meets its contract: the refusal of the tests, where there is one. Assumes nothing.
use mathlib.Core.Path.{◌≡◌, ap, ◌∙◌}
use Rattle.std.specs.Option.{option_map}
use Rattle.std.specs.Result.{result_err}
use Rattle.pck.specs.Orienting.{refused_oriented}
use Rattle.pck.specs.Steps.{early}
use borrow.Author.Rules.{rules}
use Rattle.pck.proofs.early.Goals as goal

pub returns : goal.returns
unfolding early
returns c =
    let given : c.map.result ≡ option_map refused_oriented c.err.result = search rules in
    given ∙ ap (option_map refused_oriented) (c.err.ensures.value ∙ ap result_err c.ready.ensures)
