-- DEMAND 3. Where the marks are those that opening computes, a question's answer with a memory is its answer without one, whatever is
-- remembered; so a run of questions of every kind answers each as if it had been asked alone, whatever the other questions and their
-- order, and a customer's answers are the same whatever the others ask.
--     hits_overlap     two segments of one pair that cover one epoch overlap: `le` is transitive
--     alone            where a marked segment answers, no other does
--     forward_last     the forward choice with any memory is the pair's last covering segment
--     no_memory_once   so one question's answer is that of the definition with no memory
--     no_memory        and the answers of a run are those, question by question
--     no_memory_of     the same for each of many customers
--     interleaving     so two runs in which a customer asks the same give him the same, whatever the others ask, in whatever order,
--                      and whatever is remembered at the start
-- The one thing it asks is that the marks are right, `MarkedRight`: in a forged table a wrong mark can change a choice.
-- Assumes nothing.
use mathlib.Core.Path.{◌≡◌, refl, sym, ap, ap₂, ◌∙◌}
use mathlib.Core.Logic.{⊎_elim}
use mathlib.Core.Bool.{Bool, true, false, not, cond, ◌&&◌, true≢false}
use mathlib.Core.List.{List, [], ◌∷◌, map}
use Prim.Native.Nat.{ℕ, zero, suc, ◌<◌}
use native.Mathlib.Nat.{not-suc-le-zero, le_of_suc-le-suc, eq-or-lt_of_le}
use borrow.Author.Tests.{ltb-true, ne_eqb, not-true}
use lib.Dec.{ltb, eqb}
use lib.Ieee.{le, is_nan}
use Rattle.bits.specs.Same.{same_z}
use Rattle.bits.proofs.Order.{le_trans}
use Rattle.bits.proofs.Tests.{by_test_lem, and_first, and_second, and_both, or_left, or_right, same_z_eq, eq_same_z}
use Rattle.refusal.specs.declared.Refusal.TheVariants.{TableUnfit, EpochNan}
use Rattle.refusal.specs.Order.{case, first_of}
use Rattle.segment.specs.declared.Segment.{Segment}
use Rattle.std.proofs.Common.{Option, Some, None}
use Rattle.table.specs.Segments.{is_covering, overlaps, seg}
use Rattle.std.specs.Option.{option_or}
use Rattle.table.specs.Marks.{rivals, others, MarkedRight}
use Rattle.table.proofs.Last.{last_alone}
use Rattle.chain.specs.Step.{Evaluation}
use Rattle.spk.specs.declared.Question.{Question}
use Rattle.spk.specs.declared.Asked.{Asked}
use Rattle.spk.specs.Questions.{is_same, is_pair, hits, serves}
use Rattle.spk.specs.Choosing.{Memory, recall, last_forward, forward_in, remembered}
use Rattle.spk.specs.Answers.{refused_answer, same_answer}
use Rattle.spk.specs.Asking.{found_by, answer_to, asked_by, asked}
use Rattle.spk.specs.Turning.{turned_answer}
use Rattle.spk.specs.Runs.{Asking, Plain, InFrame, Single, answered, fresh, replied, run, serve, of_customer}

-- what a test that passed tells
record Hit (s : Segment) (q : Question) : Type 0 where
  target : s.target ≡ q.target
  center : s.center ≡ q.center
  after : le s.first q.et ≡ true
  before : le q.et s.last ≡ true

hit : (s : Segment) (q : Question) → hits q s ≡ true → Hit s q
hit s q h =
    let p = and_first (is_pair s q) (is_covering s q.et) h in
    let c = and_second (is_pair s q) (is_covering s q.et) h in
    record {
      target = same_z_eq _ _ (and_first (same_z s.target q.target) (same_z s.center q.center) p);
      center = same_z_eq _ _ (and_second (same_z s.target q.target) (same_z s.center q.center) p);
      after = and_first (le s.first q.et) (le q.et s.last) c;
      before = and_second (le s.first q.et) (le q.et s.last) c;
    }

-- two segments of one pair that cover one epoch overlap
pub hits_overlap : (a b : Segment) (q : Question) → hits q a ≡ true → hits q b ≡ true → overlaps a b ≡ true
hits_overlap a b q ha hb =
    let x = hit a q ha in
    let y = hit b q hb in
    and_both _ _
    (and_both _ _ (eq_same_z _ _ (x.target ∙ sym y.target)) (eq_same_z _ _ (x.center ∙ sym y.center)))
    (and_both _ _ (le_trans _ _ _ x.after y.before) (le_trans _ _ _ y.after x.before))

-- another segment that overlaps is found
others_found : (segs : List Segment) (a : Segment) (i j n : ℕ) → j < n → (j ≡ i → ⊥) → overlaps a (seg segs j) ≡ true → others segs a i n ≡ true
unfolding others
others_found segs a i j zero h ne o = absurd (not-suc-le-zero h)
others_found segs a i j (suc n) h ne o =
    ⊎_elim
    (λ (e : j ≡ n). or_left (rivals a i (seg segs n) n) _
    (and_both _ _ (ap not (ne_eqb n i (λ z. ne (e ∙ z)))) (ap (λ (k : ℕ). overlaps a (seg segs k)) (sym e) ∙ o)))
    (λ l. or_right (rivals a i (seg segs n) n) _ (others_found segs a i j n l ne o))
    (eq-or-lt_of_le (le_of_suc-le-suc h))

module _ (segs : List Segment) (n : ℕ) (right : MarkedRight segs n) where
  -- of a marked segment that answers, no other answers
  alone : (q : Question) (i : ℕ) → i < n → serves q (seg segs i) ≡ true → (j : ℕ) → j < n → (j ≡ i → ⊥) → hits q (seg segs j) ≡ false
  unfolding MarkedRight
  alone q i h s j b ne =
      by_test_lem (hits q (seg segs j))
      (λ e.
      absurd
      (true≢false
      (sym
      (others_found segs (seg segs i) i j n b ne
      (hits_overlap (seg segs i) (seg segs j) q (and_second (seg segs i).marked (hits q (seg segs i)) s) e))
      ∙ not-true _ (sym (right i h) ∙ and_first (seg segs i).marked (hits q (seg segs i)) s))))
      (λ e. e)

  -- the forward choice with any memory is the pair's last covering segment
  pub forward_last : (m : Memory) (q : Question) → forward_in segs n m q ≡ last_forward segs n q
  unfolding forward_in recall
  forward_last None q = refl
  forward_last (Some i) q =
      by_test_lem (ltb i n && serves q (seg segs i))
      (λ e.
      let h = ltb-true i n (and_first (ltb i n) (serves q (seg segs i)) e) in
      let s = and_second (ltb i n) (serves q (seg segs i)) e in
      ap pick e ∙ sym (last_alone (hits q) segs i n h (and_second (seg segs i).marked (hits q (seg segs i)) s) (alone q i h s)))
      (λ e. ap pick e)
    where
      pick : Bool → Option ℕ
      pick b = option_or (cond b (Some i) None) (last_forward segs n q)

  module _ (limit : ℕ) (ev : Evaluation) where
    -- what is remembered does not show in the answer to a choice
    by_choice : (m : Memory) (q : Question) (c : Option ℕ) → (asked_by limit ev segs n m q c).answer ≡ (asked_by limit ev segs n None q c).answer
    unfolding asked_by
    by_choice m q c = go (is_same q) (ltb limit n) (is_nan q.et)
      where
        tests : Memory → Bool → Bool → Bool → Asked
        tests x a b d =
            cond a (record { answer = same_answer; memory = x })
            (first_of (case b TableUnfit ∷ case d EpochNan ∷ []) (λ r. record { answer = refused_answer r; memory = x })
            (record { answer = answer_to (found_by ev segs n q c); memory = remembered segs x c }))

        go : (a b d : Bool) → (tests m a b d).answer ≡ (tests None a b d).answer
        go true b d = refl
        go false true d = refl
        go false false true = refl
        go false false false = refl

    -- a state, whatever is remembered
    once : (m : Memory) (q : Question) → (asked limit ev segs n m q).answer ≡ answered limit ev segs n q
    once m q =
        by_choice m q (forward_in segs n m q) ∙ ap (λ (c : Option ℕ). (asked_by limit ev segs n None q c).answer) (forward_last m q)

    -- a question of any kind, whatever is remembered
    pub no_memory_once : (m : Memory) (a : Asking) → (replied limit ev segs n m a).answer ≡ fresh limit ev segs n a
    no_memory_once m (Plain q) = once m q
    no_memory_once m (InFrame q wanted rot) = ap (turned_answer wanted rot) (once m q)
    no_memory_once m (Single i et) = refl

    -- THE THEOREM: the answers of a run are, one by one, those of the definition with no memory
    pub no_memory : (m : Memory) (asks : List Asking) → run limit ev segs n m asks ≡ map (fresh limit ev segs n) asks
    unfolding run
    no_memory m [] = refl
    no_memory m (a ∷ asks) = ap₂ ◌∷◌ (no_memory_once m a) (no_memory (replied limit ev segs n m a).memory asks)

    -- the answers of one customer among many
    pub no_memory_of : (who : ℕ) (m : Memory) (ts : List (ℕ × Asking)) → of_customer who (serve limit ev segs n m ts) ≡ map (fresh limit ev segs n) (of_customer who ts)
    unfolding serve of_customer
    no_memory_of who m [] = refl
    no_memory_of who m (t ∷ ts) = go (eqb t.0 who) (no_memory_of who (replied limit ev segs n m t.1).memory ts)
      where
        now : Asked
        now = replied limit ev segs n m t.1

        rest : List Asking
        rest = of_customer who ts

        go : (b : Bool) → of_customer who (serve limit ev segs n now.memory ts) ≡ map (fresh limit ev segs n) rest
            → cond b (now.answer ∷ of_customer who (serve limit ev segs n now.memory ts)) (of_customer who (serve limit ev segs n now.memory ts))
            ≡ map (fresh limit ev segs n) (cond b (t.1 ∷ rest) rest)
        go true e = ap₂ ◌∷◌ (no_memory_once m t.1) e
        go false e = e

    -- two runs in which a customer asks the same
    pub interleaving : (who : ℕ) (m m' : Memory) (ts ts' : List (ℕ × Asking)) → of_customer who ts ≡ of_customer who ts'
        → of_customer who (serve limit ev segs n m ts) ≡ of_customer who (serve limit ev segs n m' ts')
    interleaving who m m' ts ts' e =
        no_memory_of who m ts ∙ ap (map (fresh limit ev segs n)) e ∙ sym (no_memory_of who m' ts')
