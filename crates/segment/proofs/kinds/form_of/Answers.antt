-- `segment::form_of` meets its contract: the type's number is compared by its bits. Assumes nothing.
use Rattle.segment.proofs.Tests.{is_type, not_type}
use Rattle.segment.proofs.Forms.{form_two, form_pck, form_three, form_nine, form_thirteen, form_other}
use borrow.Author.Rules.{rules}
use Rattle.segment.proofs.kinds.form_of.Goals as goal

pub returns-then-s-eq2 : goal.returns-then-s-eq2
returns-then-s-eq2 c = form_two c.args.family c.args.s.data_type (is_type c.args.s.data_type 2 (search rules) (search rules) c.if-s-eq2.true)

pub returns-then-s-eq3 : goal.returns-then-s-eq3
returns-then-s-eq3 c =
    form_three c.args.family c.args.s.data_type c.in-Spk.is
    (not_type c.args.s.data_type 2 (search rules) (search rules) c.if-s-eq2.false)
    (is_type c.args.s.data_type 3 (search rules) (search rules) c.if-s-eq3.true)

pub returns-then-s-eq9 : goal.returns-then-s-eq9
returns-then-s-eq9 c =
    form_nine c.args.family c.args.s.data_type c.in-Spk.is
    (not_type c.args.s.data_type 2 (search rules) (search rules) c.if-s-eq2.false)
    (not_type c.args.s.data_type 3 (search rules) (search rules) c.if-s-eq3.false)
    (is_type c.args.s.data_type 9 (search rules) (search rules) c.if-s-eq9.true)

pub returns-then-s-eq13 : goal.returns-then-s-eq13
returns-then-s-eq13 c =
    form_thirteen c.args.family c.args.s.data_type c.in-Spk.is
    (not_type c.args.s.data_type 2 (search rules) (search rules) c.if-s-eq2.false)
    (not_type c.args.s.data_type 3 (search rules) (search rules) c.if-s-eq3.false)
    (not_type c.args.s.data_type 9 (search rules) (search rules) c.if-s-eq9.false)
    (is_type c.args.s.data_type 13 (search rules) (search rules) c.if-s-eq13.true)

pub returns-in-Pck : goal.returns-in-Pck
returns-in-Pck c = form_pck c.args.family c.args.s.data_type c.in-Pck.is (not_type c.args.s.data_type 2 (search rules) (search rules) c.if-s-eq2.false)

pub returns-else-s-eq13 : goal.returns-else-s-eq13
returns-else-s-eq13 c =
    form_other c.args.family c.args.s.data_type c.in-Spk.is
    (not_type c.args.s.data_type 2 (search rules) (search rules) c.if-s-eq2.false)
    (not_type c.args.s.data_type 3 (search rules) (search rules) c.if-s-eq3.false)
    (not_type c.args.s.data_type 9 (search rules) (search rules) c.if-s-eq9.false)
    (not_type c.args.s.data_type 13 (search rules) (search rules) c.if-s-eq13.false)
