-- The lines of the programs' output. Assumes nothing.
--     first_one     where a case holds, one is the first that does
--     answer_line   the line of an answer, and of an orientation, has one newline, its end
--     ask_marked    the marks of the table that a run's opening leaves are right: so its answers are those with no memory
--     same_asking   a question is read from its own record alone
use Rattle.std.proofs.Common.{Ok, Err}
use Prim.Native.Nat.{ℕ, zero, suc, ◌+◌, ◌*◌, ◌<◌, ◌≤◌}
use mathlib.Core.Path.{◌≡◌, refl, sym, ap, ap₂, ◌∙◌, subst}
use mathlib.Core.Bool.{Bool, true, false, cond, not, ◌||◌}
use mathlib.Core.Logic.{◌⊎◌, inl, inr, ⊎_elim}
use mathlib.Core.List.{List, [], ◌∷◌, ◌++◌, map}
use native.Mathlib.Omega.{arith}
use borrow.Author.Tests.{lt-ltb, le-ltb, eq-eqb, ne_eqb}
use lib.Dec.{eqb, ltb}
use lib.IntN.{ℤ}
use lib.ListN.{length, get_or, length-replicate}
use Rattle.bits.specs.Bytes.{le32, le64, signed32, double_of}
use Rattle.bits.proofs.Tests.{by_test_lem, and_no, and_both, or_left, or_right, or_none}
use Rattle.refusal.specs.declared.Refusal.TheVariants.{InputTooLong}
use Rattle.refusal.specs.Order.{Case, first_of, First, None, given}
use Rattle.refusal.proofs.Exactly.{given_where, answer_where}
use Rattle.daf.specs.declared.Family.TheVariants.{Spk}
use Rattle.segment.specs.Evaluating.{evaluated}
use Rattle.segment.specs.declared.Segment.{Segment}
use Rattle.table.specs.Segments.{empty_segment, seg}
use Rattle.table.specs.Places.{lent_limit, limit_of, empty_places}
use Rattle.table.specs.Marks.{MarkedRight}
use Rattle.opening.specs.Opening.{places_of, open_cases}
use Rattle.opening.specs.Lent.{found, table_after}
use Rattle.opening.proofs.Planned.{none_both}
use Rattle.spk.specs.declared.Answer.{Answer}
use Rattle.spk.specs.declared.Asked.{Asked}
use Rattle.std.proofs.Common.{Some, None as nothing}
use Rattle.spk.specs.declared.Question as spk
use Rattle.spk.specs.declared.Way.{Way}
use Rattle.spk.specs.declared.Way.TheVariants.{Same, Forward, Reversed, Chained, Refused}
use Rattle.spk.specs.Runs.{Asking, fresh, Plain, InFrame}
use Rattle.spk.proofs.NoMemory.{no_memory_once, no_memory}
use Rattle.spk.proofs.InKernel.{AgreesAt, bytes_replied}
use Rattle.spk.proofs.OwnBytes.{touched_replied}
use Rattle.refusal.specs.declared.Refusal.{Refusal}
use Rattle.pck.specs.declared.Oriented.{Oriented}
use Rattle.std.specs.Prelude.{Result, Ok, Err, Option, Some, None as no_frame, is_none}
use Rattle.pck.specs.declared.Question as pck
use Rattle.pck.specs.Orienting.{oriented}
use Rattle.lines.specs.Text.{space, refusal_text}
use Rattle.lines.specs.Lines.{Lined}
use Rattle.lines.proofs.Lines.{Plain as Unbroken, plain_both, OneLine, ended, in_front, word, numbered, lined, lined_alone, decimal_plain, field_plain, number_plain, yes_plain, tail_line, refusal_line, numbered_refusal_line}
use Rattle.streams.specs.Input.{input_limit}
use Rattle.admission.specs.Order.{too_long, matrix_size, record_cases}
use Rattle.admission.specs.When.{AllShort}
use Rattle.ask_text.specs.Records as ask-records
use Rattle.ask_text.specs.Lines.{same_word, forward_word, reversed_word, chained_word, word_line, named_line, way_line, answer_text}
use Rattle.ask_text.specs.FrameText.{frame_named, frame_number}
use Rattle.ask_text.specs.Text as ask
use Rattle.orient_text.specs.Records as orient-records
use Rattle.orient_text.specs.Lines.{turned_text, outcome_text, oriented_text}
use Rattle.orient_text.specs.Text as orient
use Rattle.listing_text.specs.Lines.{mark_text, head_text, span_text, segment_text, count_text}
use Rattle.listing_text.specs.Text as listing
use Rattle.demands.specs.Demands.{LentAs, SameDoubles}
use Rattle.demands.specs.Outputs.{RefusalAlone, SameRecord, AskAccepted, alone, alone_at, AskText, AskLines, AskRefused, AskInterleaving, AskLineStays, AskOwnBytes, AskOutput, OrientLines, OrientRefused, OrientInterleaving, OrientLineStays, OrientOutput, listing_line, ListingLines, ListingRefused, ListingOutput}
use Rattle.demands.proofs.Lent.{marked_right, agrees}

-- ---- a refused run

-- where not every case fails, one is the first that holds
first_one : (cs : List Case) → (None cs → ⊥) → (c : ℕ) × First cs c
first_one [] some = absurd (some tt)
first_one (c ∷ cs) some =
    by_test_lem c.holds (λ h. (0, h)) (λ h. let rest = first_one cs (λ n. some (h, n)) in (suc rest.0, (h, rest.1)))

-- a text is the line of the first refusal that holds, or n lines
module _ (cs : List Case) (answer text : List ℕ) (is : text ≡ first_of cs refusal_text answer) where
  refused_alone : (None cs → ⊥) → RefusalAlone cs text
  refused_alone some =
      let c = first_one cs some in (
        c.0,
        c.1,
        subst (λ (t : List ℕ). Lined t 1 (λ i. refusal_text (given cs c.0))) (sym (is ∙ given_where refusal_text answer cs c.0 c.1))
            (lined_alone (refusal_line (given cs c.0))),
      )

  answered_lines : (line : ℕ → List ℕ) → ((k : ℕ) → OneLine (line k)) → (n : ℕ) → answer ≡ numbered line 0 n → None cs → Lined text n line
  answered_lines line each n made ok = subst (λ (t : List ℕ). Lined t n line) (sym (is ∙ answer_where refusal_text answer cs ok ∙ made)) (lined line each n)

-- ---- the lines of `ask`
answer_line : (i : ℕ) (a : Answer) → OneLine (answer_text i a)
unfolding answer_text way_line word_line named_line
answer_line i a = by a.way
  where
    worded : (w : List ℕ) → Unbroken w → OneLine (word_line i w a.given)
    worded w p = in_front (decimal_plain i) (in_front p (tail_line a.given.stretched a.given.state))

    named : (w : List ℕ) → Unbroken w → (segment : ℕ) → OneLine (named_line i w segment a.given)
    named w p segment = in_front (decimal_plain i) (in_front p (in_front (decimal_plain segment) (tail_line a.given.stretched a.given.state)))

    by : (w : Way) → OneLine (way_line i w a.given)
    by Same = worded same_word (word same_word refl)
    by (Forward segment) = named forward_word (word forward_word refl) segment
    by (Reversed segment) = named reversed_word (word reversed_word refl) segment
    by Chained = worded chained_word (word chained_word refl)
    by (Refused r) = numbered_refusal_line i r

-- a table of n empty places has n places
empty_long : (n : ℕ) → length (empty_places n) ≡ n
unfolding empty_places
empty_long n = length-replicate n empty_segment

module _ (kernel file : List ℕ) (ok : AskAccepted kernel file) where
  opens : None (open_cases Spk lent_limit kernel)
  opens = (none_both (open_cases Spk lent_limit kernel) (record_cases ask-records.question_size ask-records.question_mark file) ok).0

  -- the table as the opening left it
  left : LentAs Spk kernel (empty_places lent_limit) (ask.table_in kernel) (ask.count_in kernel)
  unfolding found ask.table_in
  left = (
    subst (λ (m : ℕ). found Spk (limit_of m) kernel ≡ Ok (ask.count_in kernel)) (sym (empty_long lent_limit))
        (answer_where Err (Ok (length (places_of kernel))) (open_cases Spk lent_limit kernel) opens),
    subst (λ (m : ℕ). ask.table_in kernel ≡ table_after Spk (limit_of m) kernel (empty_places lent_limit)) (sym (empty_long lent_limit)) refl,
  )

  ask_marked : MarkedRight (ask.table_in kernel) (ask.count_in kernel)
  ask_marked = marked_right kernel (empty_places lent_limit) (ask.table_in kernel) (ask.count_in kernel) left

  answers_alone : (matrix : List ℕ) (frame : ℤ) → ask.answers_text 0 (ask.answers_of kernel file matrix frame) ≡ ask.answers_text 0 (map (alone kernel) (ask.askings file matrix frame))
  answers_alone matrix frame =
      ap (ask.answers_text 0) (no_memory (ask.table_in kernel) (ask.count_in kernel) ask_marked lent_limit (evaluated Spk kernel) nothing (ask.askings file matrix frame))

pub ask_text_lem : AskText
unfolding ask.ask_text
ask_text_lem kernel file matrix frame ok =
    answer_where refusal_text (ask.answers_text 0 (ask.answers_of kernel file matrix frame)) (ask.run_cases kernel file) ok ∙ answers_alone kernel file ok matrix frame

-- the lines of the answers to n questions from number i on
by_number : (kernel file matrix : List ℕ) (frame : ℤ) (i n : ℕ)
    → ask.answers_text i (map (alone kernel) (ask.askings_from file matrix frame i n)) ≡ numbered (λ k. answer_text k (alone_at kernel file matrix frame k)) i n
unfolding ask.answers_text ask.askings_from
by_number kernel file matrix frame i zero = refl
by_number kernel file matrix frame i (suc n) = ap (λ (t : List ℕ). answer_text i (alone_at kernel file matrix frame i) ++ t) (by_number kernel file matrix frame (suc i) n)

pub ask_lines : AskLines
unfolding ask.ask_text
ask_lines kernel file matrix frame ok =
    answered_lines (ask.run_cases kernel file) (ask.answers_text 0 (ask.answers_of kernel file matrix frame)) (ask.ask_text kernel file matrix frame) refl
    (λ i. answer_text i (alone_at kernel file matrix frame i)) (λ i. answer_line i (alone_at kernel file matrix frame i)) (ask.questions_in file)
    (answers_alone kernel file ok matrix frame ∙ by_number kernel file matrix frame 0 (ask.questions_in file)) ok

pub ask_refused : AskRefused
unfolding ask.ask_text
ask_refused kernel file matrix frame = refused_alone (ask.run_cases kernel file) (ask.answers_text 0 (ask.answers_of kernel file matrix frame)) (ask.ask_text kernel file matrix frame) refl

-- ---- a question is read from its own record alone
same_32 : (s t : List ℕ) (a b : ℕ) → ((k : ℕ) → k < 4 → get_or s (a + k) 0 ≡ get_or t (b + k) 0) → le32 s a ≡ le32 t b
unfolding le32
same_32 s t a b same =
    let first : get_or s a 0 ≡ get_or t b 0 = ap (λ (k : ℕ). get_or s k 0) (omega arith) ∙ same 0 (omega arith) ∙ ap (λ (k : ℕ). get_or t k 0) (omega arith) in
    omega (arith, same 1 (omega arith), same 2 (omega arith), same 3 (omega arith))

-- a part of the bytes that two records share
part : (s t : List ℕ) (p q at n : ℕ) → ((k : ℕ) → k < n → get_or s (p + k) 0 ≡ get_or t (q + k) 0) → (k : ℕ) → at + k < n → get_or s (p + at + k) 0 ≡ get_or t (q + at + k) 0
part s t p q at n same k h =
    ap (λ (j : ℕ). get_or s j 0) (omega arith) ∙ same (at + k) h ∙ ap (λ (j : ℕ). get_or t j 0) (omega arith)

same_64 : (s t : List ℕ) (a b : ℕ) → ((k : ℕ) → k < 8 → get_or s (a + k) 0 ≡ get_or t (b + k) 0) → le64 s a ≡ le64 t b
unfolding le64
same_64 s t a b same =
    ap₂ (λ (x y : ℕ). x + 4294967296 * y) (same_32 s t a b (λ k h. same k (omega arith))) (same_32 s t (a + 4) (b + 4) (λ k h. part s t a b 4 8 same k (omega arith)))

same_question : (file file' : List ℕ) (i j : ℕ) → SameRecord ask-records.question_size file i file' j → ask-records.question_at file i ≡ ask-records.question_at file' j
unfolding ask-records.question_at
same_question file file' i j same =
    let p = ask-records.question_size * i in
    let q = ask-records.question_size * j in
    ap₂ (λ (t c : ℕ). of t c (le64 file (p + 10)))
    (same_32 file file' (p + 2) (q + 2) (λ k h. part file file' p q 2 ask-records.question_size same k (omega arith)))
    (same_32 file file' (p + 6) (q + 6) (λ k h. part file file' p q 6 ask-records.question_size same k (omega arith)))
    ∙ ap (of (le32 file' (q + 2)) (le32 file' (q + 6))) (same_64 file file' (p + 10) (q + 10) (λ k h. part file file' p q 10 ask-records.question_size same k (omega arith)))
  where
    of : ℕ → ℕ → ℕ → spk.Question
    of t c e = record { target = signed32 t; center = signed32 c; et = double_of e }

same_asking : (file file' matrix : List ℕ) (frame : ℤ) (i j : ℕ) → SameRecord ask-records.question_size file i file' j → ask.asking_at file matrix frame i ≡ ask.asking_at file' matrix frame j
same_asking file file' matrix frame i j same =
    ap (λ (q : spk.Question). cond (eqb (length matrix) matrix_size) (InFrame q (Some frame) (ask-records.rows_of matrix)) (Plain q)) (same_question file file' i j same)

pub ask_interleaving : AskInterleaving
ask_interleaving kernel file file' matrix frame ok ok' i j h h' same = (
  alone_at kernel file matrix frame i,
  (ask_lines kernel file matrix frame ok).each i h,
  (ask_lines kernel file' matrix frame ok').each j h' ∙ ap (λ (a : Asking). answer_text j (alone kernel a)) (sym (same_asking file file' matrix frame i j same)),
)

pub ask_line_stays : AskLineStays
ask_line_stays kernel file file' matrix frame ok ok' i h h' same =
    let both = ask_interleaving kernel file file' matrix frame ok ok' i i h h' same in
    both.1 ∙ sym both.2

-- ---- own bytes: with nothing remembered a question is answered as with no memory, so what holds of the one holds of the other
pub ask_own_bytes : AskOwnBytes
ask_own_bytes kernel kernel' file matrix frame ok ok' table count i h touched =
    (ask_lines kernel file matrix frame ok).each i h
    ∙ ap (answer_text i)
    (sym (no_memory_once segs n (ask_marked kernel file ok) lent_limit (evaluated Spk kernel) nothing a)
    ∙ ap (λ (x : Asked). x.answer)
    (bytes_replied kernel kernel' lent_limit segs n nothing a
    (touched_replied lent_limit (evaluated Spk kernel) segs n nothing (λ s. SameDoubles kernel kernel' (seg segs s)) (AgreesAt kernel kernel' segs) (agrees kernel kernel' segs) a touched))
    ∙ no_memory_once segs n (ask_marked kernel file ok) lent_limit (evaluated Spk kernel') nothing a
    ∙ ap₂ (λ (l : List Segment) (m : ℕ). fresh lent_limit (evaluated Spk kernel') l m a) table count)
    ∙ sym ((ask_lines kernel' file matrix frame ok').each i h)
  where
    a : Asking
    a = ask.asking_at file matrix frame i

    segs : List Segment
    segs = ask.table_in kernel

    n : ℕ
    n = ask.count_in kernel

-- ---- 18
by_length : (b t : Bool) (text : List ℕ) → b ≡ t → cond b (refusal_text InputTooLong) text ≡ cond t (refusal_text InputTooLong) text
by_length b t text e = ap (λ (u : Bool). cond u (refusal_text InputTooLong) text) e

-- one of two files is too long, or none is
either_long : (kernel file : List ℕ) → (input_limit < length kernel) ⊎ (input_limit < length file) → too_long kernel file ≡ true
either_long kernel file =
    ⊎_elim (λ h. or_left _ (ltb input_limit (length file)) (lt-ltb input_limit (length kernel) h)) (λ h. or_right (ltb input_limit (length kernel)) _ (lt-ltb input_limit (length file) h))

neither_long : (kernel file : List ℕ) → length kernel ≤ input_limit → length file ≤ input_limit → too_long kernel file ≡ false
neither_long kernel file h l = or_none _ _ (le-ltb input_limit (length kernel) h) (le-ltb input_limit (length file) l)

pub ask_output_lem : AskOutput
unfolding ask.ask_output
ask_output_lem kernel file turned matrix frame = (
  λ long. by_length _ true text (one long),
  λ s given none. by_length _ false text (all_short s) ∙ fitted true (and_both turned _ given (either none)),
  λ s plain. by_length _ false text (all_short s) ∙ fitted false (sym (and_no turned _ plain) ∙ plain),
  λ s h f e. by_length _ false text (all_short s) ∙ fitted false (sized turned (eq-eqb _ _ h) e) ∙ ap (λ (x : Option ℤ). ask.ask_text kernel file matrix (frame_number x)) e,
)
  where
    text : List ℕ
    text = ask.short_output kernel file turned matrix (frame_named frame)

    all_short : AllShort kernel file matrix → (ltb input_limit (length matrix) || too_long kernel file) ≡ false
    all_short s = or_none _ _ (le-ltb input_limit (length matrix) s.matrix_fits) (neither_long kernel file s.kernel_fits s.file_fits)

    fitted : (b : Bool) → ask.unfit turned matrix (frame_named frame) ≡ b → text ≡ cond b [] (ask.ask_text kernel file matrix (frame_number (frame_named frame)))
    fitted b e = ap (λ (u : Bool). cond u [] (ask.ask_text kernel file matrix (frame_number (frame_named frame)))) e

    either : (length matrix ≡ matrix_size → ⊥) ⊎ (frame_named frame ≡ no_frame) → (not (eqb (length matrix) matrix_size) || is_none (frame_named frame)) ≡ true
    either = ⊎_elim (λ h. or_left _ (is_none (frame_named frame)) (ap not (ne_eqb _ _ h))) (λ e. or_right (not (eqb (length matrix) matrix_size)) _ (ap (λ (x : Option ℤ). is_none x) e))

    sized : {f : ℤ} (t : Bool) → eqb (length matrix) matrix_size ≡ true → frame_named frame ≡ Some f → ask.unfit t matrix (frame_named frame) ≡ false
    sized true e n = or_none _ _ (ap not e) (ap (λ (x : Option ℤ). is_none x) n)
    sized false e n = refl

    one : (input_limit < length kernel) ⊎ ((input_limit < length file) ⊎ (input_limit < length matrix)) → (ltb input_limit (length matrix) || too_long kernel file) ≡ true
    one = ⊎_elim (λ h. or_right (ltb input_limit (length matrix)) _ (either_long kernel file (inl h)))
        (⊎_elim (λ h. or_right (ltb input_limit (length matrix)) _ (either_long kernel file (inr h))) (λ h. or_left _ (too_long kernel file) (lt-ltb input_limit (length matrix) h)))

-- ---- the lines of `orient`
oriented_line : (i : ℕ) (a : Oriented) → OneLine (oriented_text i a)
unfolding oriented_text turned_text
oriented_line i a = by a.outcome
  where
    by : (o : Result (Unit {0}) Refusal) → OneLine (outcome_text i a o)
    by (Ok _) = in_front (decimal_plain i) (in_front (field_plain a.frame) (tail_line a.stretched a.angles))
    by (Err r) = numbered_refusal_line i r

orientations : (kernel file : List ℕ) (i n : ℕ) → orient.orientations_from kernel file i n ≡ numbered (λ k. oriented_text k (orient.oriented_at kernel file k)) i n
unfolding orient.orientations_from
orientations kernel file i zero = refl
orientations kernel file i (suc n) = ap (λ (t : List ℕ). oriented_text i (orient.oriented_at kernel file i) ++ t) (orientations kernel file (suc i) n)

pub orient_lines : OrientLines
unfolding orient.orient_text
orient_lines kernel file ok =
    answered_lines (orient.run_cases kernel file) (orient.orientations_from kernel file 0 (orient.questions_in file)) (orient.orient_text kernel file) refl
    (λ i. oriented_text i (orient.oriented_at kernel file i)) (λ i. oriented_line i (orient.oriented_at kernel file i)) (orient.questions_in file)
    (orientations kernel file 0 (orient.questions_in file)) ok

pub orient_refused : OrientRefused
unfolding orient.orient_text
orient_refused kernel file =
    refused_alone (orient.run_cases kernel file) (orient.orientations_from kernel file 0 (orient.questions_in file)) (orient.orient_text kernel file) refl

same_body : (file file' : List ℕ) (i j : ℕ) → SameRecord orient-records.question_size file i file' j → orient-records.question_at file i ≡ orient-records.question_at file' j
unfolding orient-records.question_at
same_body file file' i j same =
    let p = orient-records.question_size * i in
    let q = orient-records.question_size * j in
    ap₂ of (same_32 file file' (p + 2) (q + 2) (λ k h. part file file' p q 2 orient-records.question_size same k (omega arith)))
    (same_64 file file' (p + 6) (q + 6) (λ k h. part file file' p q 6 orient-records.question_size same k (omega arith)))
  where
    of : ℕ → ℕ → pck.Question
    of b e = record { body = signed32 b; et = double_of e }

pub orient_interleaving : OrientInterleaving
orient_interleaving kernel file file' ok ok' i j h h' same = (
  orient.oriented_at kernel file i,
  (orient_lines kernel file ok).each i h,
  (orient_lines kernel file' ok').each j h'
      ∙ ap (λ (q : pck.Question). oriented_text j (oriented lent_limit kernel (orient.table_in kernel) (orient.count_in kernel) q)) (sym (same_body file file' i j same)),
)

pub orient_line_stays : OrientLineStays
orient_line_stays kernel file file' ok ok' i h h' same =
    let both = orient_interleaving kernel file file' ok ok' i i h h' same in
    both.1 ∙ sym both.2

pub orient_output_lem : OrientOutput
unfolding orient.orient_output
orient_output_lem kernel file = (
  λ long. by_length _ true (orient.orient_text kernel file) (either_long kernel file long),
  λ h l. by_length _ false (orient.orient_text kernel file) (neither_long kernel file h l),
)

-- ---- the lines of `listing`
head_plain : (s : Segment) → Unbroken (head_text s)
unfolding head_text
head_plain s = plain_both (field_plain s.target) (plain_both (field_plain s.center) (plain_both (field_plain s.frame) (field_plain s.data_type)))

mark_line : (b : Bool) → OneLine (mark_text b)
unfolding mark_text
mark_line b = in_front (yes_plain b) ended

span_line : (s : Segment) → OneLine (span_text s)
unfolding span_text
span_line s =
    in_front (number_plain s.first)
    (in_front (number_plain s.last) (in_front (field_plain s.start) (in_front (field_plain s.end) (mark_line s.marked))))

segment_line : (i : ℕ) (s : Segment) → OneLine (segment_text i s)
unfolding segment_text
segment_line i s = in_front (decimal_plain i) (in_front (head_plain s) (span_line s))

count_line : (n : ℕ) → OneLine (count_text n)
unfolding count_text
count_line n = in_front (word (115 ∷ 101 ∷ 103 ∷ 109 ∷ 101 ∷ 110 ∷ 116 ∷ 115 ∷ space ∷ []) refl) (in_front (decimal_plain n) ended)

listing_line_lem : (kernel : List ℕ) (i : ℕ) → OneLine (listing_line kernel i)
listing_line_lem kernel zero = count_line (listing.count_in kernel)
listing_line_lem kernel (suc i) = segment_line i _

segments : (kernel : List ℕ) (i n : ℕ) → listing.segments_from (listing.table_in kernel) i n ≡ numbered (listing_line kernel) (suc i) n
unfolding listing.segments_from
segments kernel i zero = refl
segments kernel i (suc n) = ap (λ (t : List ℕ). segment_text i (seg (listing.table_in kernel) i) ++ t) (segments kernel (suc i) n)

abbrev listed : List ℕ → List ℕ
listed kernel = count_text (listing.count_in kernel) ++ listing.segments_from (listing.table_in kernel) 0 (listing.count_in kernel)

pub listing_lines : ListingLines
unfolding listing.listing_text
listing_lines kernel ok =
    answered_lines (open_cases Spk lent_limit kernel) (listed kernel) (listing.listing_text kernel) refl
    (listing_line kernel) (listing_line_lem kernel) (suc (listing.count_in kernel))
    (ap (λ (t : List ℕ). count_text (listing.count_in kernel) ++ t) (segments kernel 0 (listing.count_in kernel))) ok

pub listing_refused : ListingRefused
unfolding listing.listing_text
listing_refused kernel = refused_alone (open_cases Spk lent_limit kernel) (listed kernel) (listing.listing_text kernel) refl

pub listing_output_lem : ListingOutput
unfolding listing.listing_output
listing_output_lem kernel = (
  λ h. by_length _ true (listing.listing_text kernel) (lt-ltb input_limit (length kernel) h),
  λ h. by_length _ false (listing.listing_text kernel) (le-ltb input_limit (length kernel) h),
)
