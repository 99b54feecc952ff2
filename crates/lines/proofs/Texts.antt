-- Texts put one after the other, fields of a struct, and what `io`'s digits are. Assumes nothing.
use mathlib.Core.Path.{◌≡◌, refl, sym, ap, ap₂, ◌∙◌, subst}
use mathlib.Core.Bool.{Bool, true, false, cond}
use mathlib.Core.List.{List, [], ◌∷◌, ◌++◌, append_assoc, append-nil}
use Prim.Native.Nat.{ℕ, zero, suc, ◌+◌, ◌-◌, ◌*◌, ◌/◌, ◌%◌, ◌^◌, ◌≤◌, ◌<◌}
use native.Mathlib.Nat.{le_antisymm, lt_of_lt_of_le, mod-eq_of_lt, div-lt_iff_lt-mul, le-div_iff_mul-le, pow-suc, one-le-pow, pow-le-pow_right}
use native.Mathlib.Omega.{arith}
use lib.Dec.{ltb, lit≤}
use lib.IntN.{ℤ}
use lib.ListN.{length, take, drop, take-append-drop, length-append}
use lib.Seq.{drop-drop}
use mir.Syntax.{w32}
use mir.Val.{SFits, to_z, of_z}
use mir.ValLaws.{to_z-of_z}
use borrow.Author.Tests.{lt-ltb, le-ltb, ltb-true, ltb-false}
use Rattle.promised.proofs.Alike.{both}
use Rattle.io.specs.Digits.{hex_digit_ascii, last_digits, IsDigitCount}
use Rattle.lines.specs.Text.{decimal_in, decimal_text, field_text}
use Rattle.lines.specs.declared.Page.{Page}
use Rattle.lines.specs.Written.{Written, Put}

-- one text after another
pub written_then : {before : List ℕ} {at : ℕ} {first second : List ℕ} {middle after : List ℕ} {next last : ℕ}
    → Written before at first middle next → Written middle next second after last → Written before at (first ++ second) after last
written_then {before} {at} {first} {second} {middle} {after} {next} {last} a b = record {
  ends = b.ends ∙ ap (λ (k : ℕ). k + length second) a.ends ∙ omega (arith, length-append first second);
  reads = b.reads ∙ ap (λ (l : List ℕ). l ++ second) a.reads ∙ append_assoc (take at before) first second;
  rest =
      b.rest
      ∙ ap (λ (k : ℕ). drop k middle) b.ends
      ∙ sym (drop-drop (length second) next middle)
      ∙ ap (drop (length second)) a.rest
      ∙ drop-drop (length second) next before
      ∙ ap (λ (k : ℕ). drop k before) (sym b.ends);
}

-- .. in a page
pub then : {before middle after : Page} {first second : List ℕ} → Put before first middle → Put middle second after → Put before (first ++ second) after
then a b = record { written = written_then a.written b.written; same = b.same ∙ a.same; place = b.place ∙ a.place; long = b.long ∙ a.long }

-- no text
pub written_none : (before : List ℕ) (at : ℕ) → Written before at [] before at
written_none before at = record { ends = omega arith; reads = sym (append-nil (take at before)); rest = refl }

pub put_none : (page : Page) → Put page [] page
put_none page = record { written = written_none page.out.now page.at; same = refl; place = refl; long = refl }

-- the buffer that a page was made of, once the page is gone: the text stands in it
pub left : {start page : Page} {text final : List ℕ}
    → Put start text page → (start.out.ghost_name ≡ page.out.ghost_name → final ≡ page.out.now) → Written start.out.now start.at text final page.at
left {start} {page} {text} p e = subst (λ (l : List ℕ). Written start.out.now start.at text l page.at) (sym (e (sym p.same))) p.written

-- ---- a text that is put line by line into the page `start`: once `left` is put into `page`, which is what the page is by now, all of it is
pub record Rest (start : Page) (text : List ℕ) (page : Page) (left : List ℕ) : Type 0 where
  pub put : (after : Page) → Put page left after → Put start text after
  pub long : length page.out.now ≡ length start.out.now

pub rest_first : (page : Page) (text : List ℕ) → Rest page text page text
rest_first page text = record { put = λ after p. p; long = refl }

pub rest_line : {start page after : Page} {text left line later : List ℕ} → Rest start text page left → left ≡ line ++ later → Put page line after → Rest start text after later
rest_line {page = page} r e p = record {
  put = λ last q. r.put last (subst (λ (l : List ℕ). Put page l last) (sym e) (then p q));
  long = p.long ∙ r.long;
}

pub rest_last : {start page : Page} {text left : List ℕ} → Rest start text page left → left ≡ [] → Put start text page
rest_last {page = page} r e = r.put page (subst (λ (l : List ℕ). Put page l page) (sym e) (put_none page))

-- .. by their numbers: `lines i s many` are so many lines from number i on, where s is known; the first is `line i s`, and `next i s` is known after it
pub record Turns (S : Type 0) (lines : ℕ → S → ℕ → List ℕ) (line : ℕ → S → List ℕ) (next : ℕ → S → S) : Type 0 where
  pub none : (i : ℕ) (s : S) → lines i s 0 ≡ []
  pub more : (i : ℕ) (s : S) (many : ℕ) → lines i s (suc many) ≡ line i s ++ lines (suc i) (next i s) many

-- before the first of m lines, at one of them, and after the last
pub first_turn : {S : Type 0} (lines : ℕ → S → ℕ → List ℕ) (m : ℕ) (page : Page) (s : S) → Rest page (lines 0 s m) page (lines 0 s (m - 0))
first_turn lines m page s =
    let all : m ≡ m - 0 = omega arith in subst (λ (k : ℕ). Rest page (lines 0 s m) page (lines 0 s k)) all (rest_first page (lines 0 s m))

pub next_turn : {S : Type 0} {lines : ℕ → S → ℕ → List ℕ} {line : ℕ → S → List ℕ} {next : ℕ → S → S} {start page after : Page} {text : List ℕ}
    → Turns S lines line next → (m i : ℕ) (s : S) → i < m
    → Rest start text page (lines i s (m - i)) → Put page (line i s) after → Rest start text after (lines (i + 1) (next i s) (m - (i + 1)))
next_turn {lines = lines} {line} {next} t m i s less rest put =
    let many : m - i ≡ suc (m - suc i) = omega arith in
    let up : suc i ≡ i + 1 = omega arith in
    rest_line rest (ap (lines i s) many ∙ t.more i s (m - suc i) ∙ ap (λ (k : ℕ). line i s ++ lines k (next i s) (m - k)) up) put

pub last_turn : {S : Type 0} {lines : ℕ → S → ℕ → List ℕ} {line : ℕ → S → List ℕ} {next : ℕ → S → S} {start page : Page} {text : List ℕ}
    → Turns S lines line next → (m i : ℕ) (s : S) → m ≤ i → Rest start text page (lines i s (m - i)) → Put start text page
last_turn {lines = lines} t m i s most rest = let none : m - i ≡ 0 = omega arith in rest_last rest (ap (lines i s) none ∙ t.none i s)

-- ---- any two buffers and places that it permits are equal
pub two_texts : {before : List ℕ} {at : ℕ} {text : List ℕ} (after after' : List ℕ) (next next' : ℕ)
    → Written before at text after next → Written before at text after' next' → (after ≡ after') × (next ≡ next')
two_texts {before} {at} {text} after after' next next' a b = (
  sym (take-append-drop next after)
      ∙ ap₂ ◌++◌ (a.reads ∙ sym b.reads) (a.rest ∙ ap (λ (k : ℕ). drop k before) same ∙ sym b.rest)
      ∙ take-append-drop next' after',
  same,
)
  where
    same : next ≡ next'
    same = a.ends ∙ sym b.ends

-- .. and so are the results and what is lent mutably of two calls, `more` being what is lent beside the buffer
pub two_buffers : {before : List ℕ} {at : ℕ} {text : List ℕ} {after after' : List ℕ} {next next' : ℕ} {W : Type 0} (more : W)
    → Written before at text after next → Written before at text after' next' → (next ≡ next') × (◌≡◌ {A = List ℕ × W} (after, more) (after', more))
two_buffers {after} {after'} {next} {next'} more a b = (same.1, both same.0 refl)
  where
    same : (after ≡ after') × (next ≡ next')
    same = two_texts after after' next next' a b

-- .. and any two pages
same_page : {p q : Page} → p.out.ref_ptr ≡ q.out.ref_ptr → p.out.ghost_name ≡ q.out.ghost_name → p.out.now ≡ q.out.now → p.at ≡ q.at → p ≡ q
same_page {p} {q} e f g h =
    let same : ◌≡◌ {A = Page} (record { out = record { ref_ptr = p.out.ref_ptr; ghost_name = p.out.ghost_name; now = p.out.now }; at = p.at })
    (record { out = record { ref_ptr = q.out.ref_ptr; ghost_name = q.out.ghost_name; now = q.out.now }; at = q.at }) = cc in
    same

pub two_pages : {before after after' : Page} {text : List ℕ} {r r' : Unit {0}} {W : Type 0} (more : W)
    → Put before text after → Put before text after' → (r ≡ r') × (◌≡◌ {A = Page × W} (after, more) (after', more))
two_pages {after = after} {after'} more a b =
    let t : (after.out.now ≡ after'.out.now) × (after.at ≡ after'.at) = two_texts after.out.now after'.out.now after.at after'.at a.written b.written in
    (refl, both (same_page (a.place ∙ sym b.place) (a.same ∙ sym b.same) t.0 t.1) refl)

-- a field of a struct, read back from its bits
pub told : {before after : Page} (z : ℤ) → SFits w32 z → Put before (field_text (to_z w32 (of_z w32 z))) after → Put before (field_text z) after
told {before} {after} z f w = subst (λ (y : ℤ). Put before (field_text y) after) (to_z-of_z w32 z f) w

-- so many digits
pub digits_length : (b k n : ℕ) → length (last_digits b k n) ≡ k
digits_length b zero n = refl
digits_length b (suc k) n = length-append (last_digits b k (n / b)) (hex_digit_ascii (n % b) ∷ []) ∙ ap (λ (j : ℕ). j + 1) (digits_length b k (n / b)) ∙ omega arith

-- a number below a power takes no more digits than that
pub most : (b least n k m : ℕ) → 0 < b → IsDigitCount b least n k → least ≤ m → n < b ^ m → k ≤ m
most b least n k m pos h l small = by (ltb m k) refl
  where
    over : m < k → ⊥
    over o =
        let larger : b ^ m ≤ b ^ (k - 1) = pow-le-pow_right pos (omega arith) in
        omega (arith, h.2 (omega arith))

    by : (t : Bool) → ltb m k ≡ t → k ≤ m
    by true e = absurd (over (ltb-true m k e))
    by false e = ltb-false m k e

-- one turn of the text, by its test
short : (f n : ℕ) → n < 10 → decimal_in (suc f) n ≡ hex_digit_ascii n ∷ []
unfolding decimal_in
short f n h = ap (λ (b : Bool). cond b (hex_digit_ascii n ∷ []) (decimal_in f (n / 10) ++ (hex_digit_ascii (n % 10) ∷ []))) (lt-ltb n 10 h)

long : (f n : ℕ) → 10 ≤ n → decimal_in (suc f) n ≡ decimal_in f (n / 10) ++ (hex_digit_ascii (n % 10) ∷ [])
unfolding decimal_in
long f n h = ap (λ (b : Bool). cond b (hex_digit_ascii n ∷ []) (decimal_in f (n / 10) ++ (hex_digit_ascii (n % 10) ∷ []))) (le-ltb n 10 h)

-- ten times a power is the next
next_power : (k : ℕ) → 10 ^ suc k ≡ 10 ^ k * 10
next_power k = pow-suc 10 k

-- of a number that takes more than one digit: it is not below 10, and its tenth part takes one less
module _ (k n : ℕ) (h : IsDigitCount 10 1 n (suc (suc k))) where
  least : 10 ^ k * 10 ≤ n
  least =
      subst (λ (p : ℕ). p ≤ n) (next_power k)
      (subst (λ (j : ℕ). 10 ^ j ≤ n) (omega arith) (h.2 (omega arith)))

  ten_or_more : 10 ≤ n
  ten_or_more = omega (arith, least, one-le-pow k 10 (omega arith))

  tenth : IsDigitCount 10 1 (n / 10) (suc k)
  tenth = (
    omega arith,
    (div-lt_iff_lt-mul {k = 10} {x = n} {y = 10 ^ suc k} (omega arith)).1 (subst (λ (p : ℕ). n < p) (next_power (suc k)) h.1),
    λ _. subst (λ (j : ℕ). 10 ^ j ≤ n / 10) (omega arith) ((le-div_iff_mul-le {k = 10} {x = 10 ^ k} {y = n} (omega arith)).1 least),
  )

-- the fewest digits that hold a number are its text
pub fewest : (k f n : ℕ) → IsDigitCount 10 1 n k → k ≤ f → last_digits 10 k n ≡ decimal_in f n
fewest zero f n h l = absurd (none h.0)
  where
    none : 1 ≤ 0 → ⊥
    none a = omega arith
fewest (suc k) zero n h l = absurd (none l)
  where
    none : suc k ≤ 0 → ⊥
    none a = omega arith
fewest (suc zero) (suc f) n h l = ap (λ (d : ℕ). hex_digit_ascii d ∷ []) (mod-eq_of_lt h.1) ∙ sym (short f n h.1)
fewest (suc (suc k)) (suc f) n h l =
    ap (λ (t : List ℕ). t ++ (hex_digit_ascii (n % 10) ∷ [])) (fewest (suc k) f (n / 10) (tenth k n h) (omega arith))
    ∙ sym (long f n (ten_or_more k n h))

-- a number in decimal has no more digits than it is given
decimal_in_lem : (f n : ℕ) → length (decimal_in f n) ≤ f
unfolding decimal_in
decimal_in_lem zero n = omega arith
decimal_in_lem (suc f) n = turn (ltb n 10) (decimal_in_lem f (n / 10))
  where
    turn : (b : Bool) → length (decimal_in f (n / 10)) ≤ f → length (cond b (hex_digit_ascii n ∷ []) (decimal_in f (n / 10) ++ (hex_digit_ascii (n % 10) ∷ []))) ≤ suc f
    turn true h = omega arith
    turn false h = omega (arith, length-append (decimal_in f (n / 10)) (hex_digit_ascii (n % 10) ∷ []))

pub decimal_length : (n : ℕ) → length (decimal_text n) ≤ 20
unfolding decimal_text
decimal_length n = decimal_in_lem 20 n

-- the digits that `io::decimal` puts are the text
pub decimal_text_lem : (n k : ℕ) → n < 2 ^ 64 → IsDigitCount 10 1 n k → last_digits 10 k n ≡ decimal_text n
unfolding decimal_text
decimal_text_lem n k small h = fewest k 20 n h (most 10 1 n k 20 (omega arith) h (omega arith) (lt_of_lt_of_le small (lit≤ tt)))

-- and those of `io::hex` are 16
pub hex_places : (n k : ℕ) → n < 2 ^ 64 → IsDigitCount 16 16 n k → k ≡ 16
hex_places n k small h = le_antisymm (most 16 16 n k 16 (omega arith) h (omega arith) small) h.0
