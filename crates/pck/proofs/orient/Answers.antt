-- `pck::orient` meets its contract: an answer for each way, and the bounds of what is read. Assumes nothing.
use Rattle.std.proofs.Common.{rules, ◌≡◌, ◌<◌, ◌∙◌, Some, None, length, sym, arith}
use Rattle.table.specs.Places.{limit_of}
use Rattle.table.proofs.Choices.{within_at}
use Rattle.table.proofs.Limits.{limit_told}
use Rattle.pck.specs.Steps.{early}
use Rattle.pck.proofs.Finding.{given_early, given_late, late_fits}
use Rattle.pck.proofs.orient.Goals as goal

pub returns-in-Some : goal.returns-in-Some
returns-in-Some g c = λ x h.
    let a = c.args in
    given_early (limit_of (length a.table.now)) a.kernel.now a.table.now a.n a.q x _ (sym c.in-Some.ensures)

pub last-requires : goal.last-requires
last-requires g c =
    let a = c.args in
    let limit = limit_of (length a.table.now) in
    let none : early limit a.n a.q ≡ None = sym c.in_default.ensures in
    let can = c.requires.finds (late_fits limit a.n a.q none) in
    search rules

pub offset_bounds-table-i : goal.offset_bounds-table-i
offset_bounds-table-i g c =
    let a = c.args in
    let limit = limit_of (length a.table.now) in
    let none : early limit a.n a.q ≡ None = sym c.in_default.ensures in
    let fits = limit_told (length a.table.now) a.n (late_fits limit a.n a.q none) in
    let is : c.last.result ≡ Some c.in-Some-last.i = c.in-Some-last.is in
    let lt = within_at a.n c.last.result c.in-Some-last.i is (c.requires.within c.last.result (search rules)) in
    let below : c.in-Some-last.i < length a.table.now = omega (arith, fits.0, lt) in
    search rules

pub bounds-table-i : goal.bounds-table-i
bounds-table-i g c =
    let a = c.args in
    let limit = limit_of (length a.table.now) in
    let none : early limit a.n a.q ≡ None = sym c.in_default.ensures in
    let fits = limit_told (length a.table.now) a.n (late_fits limit a.n a.q none) in
    let is : c.last.result ≡ Some c.in-Some-last.i = c.in-Some-last.is in
    let lt = within_at a.n c.last.result c.in-Some-last.i is (c.requires.within c.last.result (search rules)) in
    let below : c.in-Some-last.i < length a.table.now = omega (arith, fits.0, lt) in
    search rules

pub answered_by-requires : goal.answered_by-requires
answered_by-requires g c =
    let a = c.args in
    let limit = limit_of (length a.table.now) in
    let none : early limit a.n a.q ≡ None = sym c.in_default.ensures in
    let fits = limit_told (length a.table.now) a.n (late_fits limit a.n a.q none) in
    let is : c.last.result ≡ Some c.in-Some-last.i = c.in-Some-last.is in
    let lt = within_at a.n c.last.result c.in-Some-last.i is (c.requires.within c.last.result (search rules)) in
    omega (arith, fits.1, lt)

pub returns-in-Some-last : goal.returns-in-Some-last
returns-in-Some-last g c = λ x h.
    let a = c.args in
    let limit = limit_of (length a.table.now) in
    let none : early limit a.n a.q ≡ None = sym c.in_default.ensures in
    let is : c.last.result ≡ Some c.in-Some-last.i = c.in-Some-last.is in
    let lt = within_at a.n c.last.result c.in-Some-last.i is (c.requires.within c.last.result (search rules)) in
    let at : c.last.result ≡ x = h c.last.result (search rules) in
    rw c.answered_by.ensures (given_late limit a.kernel.now a.table.now a.n a.q x (Some c.in-Some-last.i) (sym at ∙ is) lt none)

pub returns-in-None : goal.returns-in-None
returns-in-None g c = λ x h.
    let a = c.args in
    let limit = limit_of (length a.table.now) in
    let none : early limit a.n a.q ≡ None = sym c.in_default.ensures in
    let is : c.last.result ≡ None = c.in-None.is in
    let at : c.last.result ≡ x = h c.last.result (search rules) in
    rw c.uncovered.ensures (given_late limit a.kernel.now a.table.now a.n a.q x None (sym at ∙ is) tt none)
