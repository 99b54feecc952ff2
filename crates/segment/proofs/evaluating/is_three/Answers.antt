-- `segment::is_three` meets its contract: the type's number is compared by its bits. Assumes nothing.
use mathlib.Core.Path.{sym}
use native.Mathlib.Omega.{arith}
use Rattle.segment.proofs.Tests.{is_type, not_type}
use Rattle.segment.proofs.Forms.{form_three}
use borrow.Author.Rules.{rules}
use Rattle.segment.proofs.evaluating.is_three.Goals as goal

pub returns-in-Spk : goal.returns-in-Spk
returns-in-Spk c = λ h.
    let three = c.if-s-ne3.false in
    let a = c.args in
    sym (form_three a.family a.s.data_type c.in-Spk.is (not_type a.s.data_type 2 (search rules) (search rules) (λ e. omega arith)) (is_type a.s.data_type 3 (search rules) (search rules) three))
