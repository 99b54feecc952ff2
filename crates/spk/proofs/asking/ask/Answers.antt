-- `spk::ask` meets its contract: an answer for each way, and the bounds of what is read. Assumes nothing.
use Rattle.std.proofs.Common.{rules, ◌≡◌, ◌<◌, ◌∙◌, Some, None, length, sym, ap, subst, arith}
use Rattle.std.specs.Option.{option_or}
use Rattle.daf.specs.declared.Family.TheVariants.{Spk}
use Rattle.segment.specs.Evaluating.{evaluated}
use Rattle.table.specs.Places.{limit_of}
use Rattle.table.specs.Steps.{Within}
use Rattle.table.proofs.Choices.{within_at}
use Rattle.table.proofs.Limits.{limit_told}
use Rattle.spk.specs.Questions.{swapped}
use Rattle.spk.specs.Choosing.{recall}
use Rattle.spk.specs.Steps.{early}
use Rattle.spk.proofs.Finding.{late_fits, recall_within}
use Rattle.spk.proofs.Handed.{or_told, or_within, handed_early, handed_forward, handed_reversed, handed_chained}
use Rattle.spk.proofs.asking.ask.Goals as goal

pub returns-in-Some : goal.returns-in-Some
returns-in-Some g c = λ l z hl hz.
    let a = c.args in
    let limit = limit_of (length a.table.now) in
    c.with_memory.ensures ∙ handed_early limit (evaluated Spk a.kernel.now) a.table.now a.n a.memory a.q l z _ (sym c.in-Some.ensures)

pub recall-requires : goal.recall-requires
recall-requires g c =
    let a = c.args in
    let limit = limit_of (length a.table.now) in
    let none : early limit a.n a.q ≡ None = sym c.in_default.ensures in
    let fits = limit_told (length a.table.now) a.n (late_fits limit a.n a.q none) in
    fits.0

pub or_else-requires : goal.or_else-requires
or_else-requires g c =
    let a = c.args in
    let limit = limit_of (length a.table.now) in
    let none : early limit a.n a.q ≡ None = sym c.in_default.ensures in
    λ k. c.requires.finds (late_fits limit a.n a.q none)

pub offset_bounds-table-i : goal.offset_bounds-table-i
offset_bounds-table-i g c =
    let a = c.args in
    let limit = limit_of (length a.table.now) in
    let none : early limit a.n a.q ≡ None = sym c.in_default.ensures in
    let fits = limit_told (length a.table.now) a.n (late_fits limit a.n a.q none) in
    let is : c.or_else.result ≡ Some c.in-Some-or_else.i = c.in-Some-or_else.is in
    let known = subst (Within a.n) (sym c.recall.ensures) (recall_within a.table.now a.n a.memory a.q) in
    let lt = within_at a.n c.or_else.result c.in-Some-or_else.i is (or_within a.n c.recall.result c.or_else.result _ known (λ k. c.requires.within a.q c.or_else.result (search rules)) c.or_else.ensures) in
    let below : c.in-Some-or_else.i < length a.table.now = omega (arith, fits.0, lt) in
    search rules

pub bounds-table-i : goal.bounds-table-i
bounds-table-i g c =
    let a = c.args in
    let limit = limit_of (length a.table.now) in
    let none : early limit a.n a.q ≡ None = sym c.in_default.ensures in
    let fits = limit_told (length a.table.now) a.n (late_fits limit a.n a.q none) in
    let is : c.or_else.result ≡ Some c.in-Some-or_else.i = c.in-Some-or_else.is in
    let known = subst (Within a.n) (sym c.recall.ensures) (recall_within a.table.now a.n a.memory a.q) in
    let lt = within_at a.n c.or_else.result c.in-Some-or_else.i is (or_within a.n c.recall.result c.or_else.result _ known (λ k. c.requires.within a.q c.or_else.result (search rules)) c.or_else.ensures) in
    let below : c.in-Some-or_else.i < length a.table.now = omega (arith, fits.0, lt) in
    search rules

pub offset_bounds-table-i-in-Some-or_else : goal.offset_bounds-table-i-in-Some-or_else
offset_bounds-table-i-in-Some-or_else g c =
    let a = c.args in
    let limit = limit_of (length a.table.now) in
    let none : early limit a.n a.q ≡ None = sym c.in_default.ensures in
    let fits = limit_told (length a.table.now) a.n (late_fits limit a.n a.q none) in
    let is : c.or_else.result ≡ Some c.in-Some-or_else.i = c.in-Some-or_else.is in
    let known = subst (Within a.n) (sym c.recall.ensures) (recall_within a.table.now a.n a.memory a.q) in
    let lt = within_at a.n c.or_else.result c.in-Some-or_else.i is (or_within a.n c.recall.result c.or_else.result _ known (λ k. c.requires.within a.q c.or_else.result (search rules)) c.or_else.ensures) in
    let below : c.in-Some-or_else.i < length a.table.now = omega (arith, fits.0, lt) in
    search rules

pub bounds-table-i-in-Some-or_else : goal.bounds-table-i-in-Some-or_else
bounds-table-i-in-Some-or_else g c =
    let a = c.args in
    let limit = limit_of (length a.table.now) in
    let none : early limit a.n a.q ≡ None = sym c.in_default.ensures in
    let fits = limit_told (length a.table.now) a.n (late_fits limit a.n a.q none) in
    let is : c.or_else.result ≡ Some c.in-Some-or_else.i = c.in-Some-or_else.is in
    let known = subst (Within a.n) (sym c.recall.ensures) (recall_within a.table.now a.n a.memory a.q) in
    let lt = within_at a.n c.or_else.result c.in-Some-or_else.i is (or_within a.n c.recall.result c.or_else.result _ known (λ k. c.requires.within a.q c.or_else.result (search rules)) c.or_else.ensures) in
    let below : c.in-Some-or_else.i < length a.table.now = omega (arith, fits.0, lt) in
    search rules

pub forward-requires : goal.forward-requires
forward-requires g c =
    let a = c.args in
    let limit = limit_of (length a.table.now) in
    let none : early limit a.n a.q ≡ None = sym c.in_default.ensures in
    let fits = limit_told (length a.table.now) a.n (late_fits limit a.n a.q none) in
    let is : c.or_else.result ≡ Some c.in-Some-or_else.i = c.in-Some-or_else.is in
    let known = subst (Within a.n) (sym c.recall.ensures) (recall_within a.table.now a.n a.memory a.q) in
    let lt = within_at a.n c.or_else.result c.in-Some-or_else.i is (or_within a.n c.recall.result c.or_else.result _ known (λ k. c.requires.within a.q c.or_else.result (search rules)) c.or_else.ensures) in
    omega (arith, fits.1, lt)

pub returns-in-Some-or_else : goal.returns-in-Some-or_else
returns-in-Some-or_else g c = λ l z hl hz.
    let a = c.args in
    let limit = limit_of (length a.table.now) in
    let none : early limit a.n a.q ≡ None = sym c.in_default.ensures in
    let is : c.or_else.result ≡ Some c.in-Some-or_else.i = c.in-Some-or_else.is in
    let found : c.or_else.result ≡ option_or (recall a.table.now a.n a.memory a.q) (l a.q) =
    or_told c.recall.result c.or_else.result (l a.q) _ (λ k. hl a.q c.or_else.result (search rules)) c.or_else.ensures ∙ ap (λ x. option_or x (l a.q)) c.recall.ensures in
    rw (c.forward.ensures, c.remembered-kept.ensures) (handed_forward limit (evaluated Spk a.kernel.now) a.table.now a.n a.memory a.q l z none c.in-Some-or_else.i (sym found ∙ is))

pub last-requires : goal.last-requires
last-requires g c =
    let a = c.args in
    let limit = limit_of (length a.table.now) in
    let none : early limit a.n a.q ≡ None = sym c.in_default.ensures in
    let can = c.requires.finds (late_fits limit a.n a.q none) in
    search rules

pub offset_bounds-table-i-in-Some-last : goal.offset_bounds-table-i-in-Some-last
offset_bounds-table-i-in-Some-last g c =
    let a = c.args in
    let limit = limit_of (length a.table.now) in
    let none : early limit a.n a.q ≡ None = sym c.in_default.ensures in
    let fits = limit_told (length a.table.now) a.n (late_fits limit a.n a.q none) in
    let is : c.last.result ≡ Some c.in-Some-last.i = c.in-Some-last.is in
    let lt = within_at a.n c.last.result c.in-Some-last.i is (c.requires.within c.swapped.result c.last.result (search rules)) in
    let below : c.in-Some-last.i < length a.table.now = omega (arith, fits.0, lt) in
    search rules

pub bounds-table-i-in-Some-last : goal.bounds-table-i-in-Some-last
bounds-table-i-in-Some-last g c =
    let a = c.args in
    let limit = limit_of (length a.table.now) in
    let none : early limit a.n a.q ≡ None = sym c.in_default.ensures in
    let fits = limit_told (length a.table.now) a.n (late_fits limit a.n a.q none) in
    let is : c.last.result ≡ Some c.in-Some-last.i = c.in-Some-last.is in
    let lt = within_at a.n c.last.result c.in-Some-last.i is (c.requires.within c.swapped.result c.last.result (search rules)) in
    let below : c.in-Some-last.i < length a.table.now = omega (arith, fits.0, lt) in
    search rules

pub reversed-requires : goal.reversed-requires
reversed-requires g c =
    let a = c.args in
    let limit = limit_of (length a.table.now) in
    let none : early limit a.n a.q ≡ None = sym c.in_default.ensures in
    let fits = limit_told (length a.table.now) a.n (late_fits limit a.n a.q none) in
    let is : c.last.result ≡ Some c.in-Some-last.i = c.in-Some-last.is in
    let lt = within_at a.n c.last.result c.in-Some-last.i is (c.requires.within c.swapped.result c.last.result (search rules)) in
    omega (arith, fits.1, lt)

pub returns-in-Some-last : goal.returns-in-Some-last
returns-in-Some-last g c = λ l z hl hz.
    let a = c.args in
    let limit = limit_of (length a.table.now) in
    let none : early limit a.n a.q ≡ None = sym c.in_default.ensures in
    let no : c.or_else.result ≡ None = c.in_default-or_else.is in
    let found : c.or_else.result ≡ option_or (recall a.table.now a.n a.memory a.q) (l a.q) =
    or_told c.recall.result c.or_else.result (l a.q) _ (λ k. hl a.q c.or_else.result (search rules)) c.or_else.ensures ∙ ap (λ x. option_or x (l a.q)) c.recall.ensures in
    let back : c.last.result ≡ l (swapped a.q) = hl c.swapped.result c.last.result (search rules) ∙ ap l c.swapped.ensures in
    let is : c.last.result ≡ Some c.in-Some-last.i = c.in-Some-last.is in
    rw (c.with_memory-in-Some-last.ensures, c.reversed.ensures) (handed_reversed limit (evaluated Spk a.kernel.now) a.table.now a.n a.memory a.q l z none (sym found ∙ no) c.in-Some-last.i (sym back ∙ is))

pub chain-requires : goal.chain-requires
chain-requires g c =
    let a = c.args in
    let limit = limit_of (length a.table.now) in
    let none : early limit a.n a.q ≡ None = sym c.in_default.ensures in
    let can = c.requires.gives (late_fits limit a.n a.q none) in
    search rules

pub returns : goal.returns
returns g c = λ l z hl hz.
    let a = c.args in
    let limit = limit_of (length a.table.now) in
    let none : early limit a.n a.q ≡ None = sym c.in_default.ensures in
    let no : c.or_else.result ≡ None = c.in_default-or_else.is in
    let found : c.or_else.result ≡ option_or (recall a.table.now a.n a.memory a.q) (l a.q) =
    or_told c.recall.result c.or_else.result (l a.q) _ (λ k. hl a.q c.or_else.result (search rules)) c.or_else.ensures ∙ ap (λ x. option_or x (l a.q)) c.recall.ensures in
    let back : c.last.result ≡ l (swapped a.q) = hl c.swapped.result c.last.result (search rules) ∙ ap l c.swapped.ensures in
    let is : c.last.result ≡ None = c.in-None.is in
    let given = hz a.q c.chain.result (search rules) in
    rw (c.with_memory-in-None.ensures, c.by_chain.ensures, given) (handed_chained limit (evaluated Spk a.kernel.now) a.table.now a.n a.memory a.q l z none (sym found ∙ no) (sym back ∙ is))
