-- `segment::find` meets its contract: each test in its turn. What one shows is a lemma at the place after it. Assumes nothing.
use mathlib.Core.Path.{sym, ap, ◌∙◌}
use mathlib.Core.Bool.{true, false}
use Rattle.std.proofs.Common.{Some}
use Rattle.segment.proofs.Numbers.{under_size, over_size}
use Rattle.segment.proofs.Finding.{found_nan, found_other, found_misplaced, found_short, found_trailer}
use Rattle.segment.proofs.malformed.find.Goals as goal

pub returns-then-limit_nan : goal.returns-then-limit_nan
returns-then-limit_nan c = found_nan _ _ _ (sym c.limit_nan.ensures ∙ c.if-limit_nan.true)

pub returns-in_default : goal.returns-in_default
returns-in_default c =
    found_other _ _ _ (sym c.limit_nan.ensures ∙ c.if-limit_nan.false)
    (sym c.in_default.ensures)

pub returns-then-misplaced : goal.returns-then-misplaced
returns-then-misplaced c = found_misplaced _ _ _ (sym c.limit_nan.ensures ∙ c.if-limit_nan.false) _ (sym c.in-Some.ensures) (sym c.misplaced.ensures ∙ c.if-misplaced.true)

pub returns-then-len-trailer_size : goal.returns-then-len-trailer_size
returns-then-len-trailer_size c =
    found_short _ _ _ (sym c.limit_nan.ensures ∙ c.if-limit_nan.false) _ (sym c.in-Some.ensures) (sym c.misplaced.ensures ∙ c.if-misplaced.false) _ _ c.start_of.ensures.0
    c.end_of-end.ensures.0 (under_size _ _ _ c.trailer_size.ensures c.if-len-trailer_size.true)

pub returns-then-bad_trailer : goal.returns-then-bad_trailer
returns-then-bad_trailer c =
    sym
    (found_trailer _ _ _ (sym c.limit_nan.ensures ∙ c.if-limit_nan.false) _ (sym c.in-Some.ensures) (sym c.misplaced.ensures ∙ c.if-misplaced.false) _ _ c.start_of.ensures.0
    c.end_of-end.ensures.0 _ true (over_size _ _ _ c.trailer_size.ensures c.if-len-trailer_size.false) c.trailer_at-t.ensures
    (sym c.bad_trailer.ensures ∙ c.if-bad_trailer.true))

pub returns : goal.returns
returns c =
    ap Some c.kind_with.ensures
    ∙ sym
    (found_trailer _ _ _ (sym c.limit_nan.ensures ∙ c.if-limit_nan.false) _ (sym c.in-Some.ensures) (sym c.misplaced.ensures ∙ c.if-misplaced.false) _ _ c.start_of.ensures.0
    c.end_of-end.ensures.0 _ false (over_size _ _ _ c.trailer_size.ensures c.if-len-trailer_size.false) c.trailer_at-t.ensures
    (sym c.bad_trailer.ensures ∙ c.if-bad_trailer.false))
