-- `spk::chain_of` meets its contract: an answer for each way. Assumes nothing.
use Rattle.std.proofs.Common.{rules, ◌≡◌, Ok, Err, ◌∙◌, sym, ap}
use Rattle.std.proofs.lemmas.Result.{err_from_is_err_and}
use Rattle.spk.specs.Questions.{swapped}
use Rattle.spk.specs.Answers.{less_of}
use Rattle.spk.proofs.Finding.{difference_refused, difference_state}
use Rattle.spk.proofs.chain_of.Goals as goal

pub returns-in_err-a : goal.returns-in_err-a
returns-in_err-a g c = λ z h.
    let first : c.to_zero.result ≡ z c.args.q = h c.args.q c.to_zero.result (search rules) in
    let given = err_from_is_err_and c.from_residual.result c.from_residual.ensures.1 in
    given.1 ∙ ap Err given.2 ∙ difference_refused _ _ _ (sym first ∙ c.in_err-a.was)

pub returns-in_err-b : goal.returns-in_err-b
returns-in_err-b g c = λ z h.
    let first : c.to_zero.result ≡ z c.args.q = h c.args.q c.to_zero.result (search rules) in
    let second : c.to_zero-2.result ≡ z c.swapped.result = h c.swapped.result c.to_zero-2.result (search rules) in
    let given = err_from_is_err_and c.from_residual-in_err-b.result c.from_residual-in_err-b.ensures.1 in
    given.1 ∙ ap Err given.2 ∙ ap (less_of c.in_ok-a.a) (sym c.in_err-b.was ∙ second ∙ ap z c.swapped.ensures) ∙ difference_state _ _ _ (sym first ∙ c.in_ok-a.was)

pub returns : goal.returns
returns g c = λ z h.
    let first : c.to_zero.result ≡ z c.args.q = h c.args.q c.to_zero.result (search rules) in
    let second : c.to_zero-2.result ≡ z c.swapped.result = h c.swapped.result c.to_zero-2.result (search rules) in
    ap Ok c.minus.ensures ∙ ap (less_of c.in_ok-a.a) (sym c.in_ok-b.was ∙ second ∙ ap z c.swapped.ensures) ∙ difference_state _ _ _ (sym first ∙ c.in_ok-a.was)
