-- The entry of the labelling: its judgement, and what is prepared for the loop where nothing is refused.
--   judged_network judged_source                  the judgement, cause by cause
--   lengths_are may_begin can_label               what is prepared for an accepted network
--   refused labelled                              what the entry returns and leaves
--   LabelArcsLeaves arcs-.. labels_alone          the same where the arcs are kept too; without them
--   plain                                         the same in plain terms
use Rattle.std.specs.Prelude.{◌≡◌, cond, List, [], ◌∷◌, ◌≢◌, ℕ, zero, suc, ◌+◌, ◌≤◌, ◌<◌, get_or, length}
use Rattle.std.proofs.Math.Path.{refl, ap}
use Rattle.std.proofs.Common.{sym, ◌∙◌, ⊎_elim, arith}
use borrow.Author.Tests.{eq-eqb, ne_eqb, eqb-true}
use Rattle.std.proofs.Math.ListN.{replicate}
use Rattle.std.proofs.lemmas.List.{length-replicate}
use Rattle.definitions.specs.declared.LabelAnswer.{LabelAnswer}
use Rattle.definitions.specs.Entries.{judge_lent, has_places, judge_buffers, AfterLabel, judge_labelling, label_answer, label_refusal, label_network}
use Rattle.definitions.specs.PlainPromises.{PlainLabels}
use Rattle.definitions.specs.Limits.{max_size, size_places, vertex_places, length_places, label_places, unreached}
use Rattle.definitions.specs.Lists.{first_cause, Every}
use Rattle.definitions.specs.Network.{Piece}
use Rattle.definitions.specs.Blocks.{blocks}
use Rattle.definitions.specs.Labelling.{labelling, labels}
use Rattle.definitions.specs.Judgement.{judge_bounds, judge_source, judge_piece, piece_at, pieces_of, judge_from, judge_network}
use Rattle.definitions.proofs.Laws.CauseLaws.{passed, no_cause, test_holds, bounds_in}
use Rattle.basics.specs.Buffers.{buffers_are}
use Rattle.logic.specs.Tests.{split_at, Equal, equal, differ, equality}
use Rattle.preparation.specs.BlockIndex.{no_index, filled_blocks}
use Rattle.preparation.specs.Prepared.{matrix_of, filled_matrix, table_count, tables_of, filled_tables, max_words}
use Rattle.preparation.specs.Numbering.{Fits}
use Rattle.labelling_laws.specs.Acceptance.{Accepted}
use Rattle.labelling_laws.proofs.Acceptance.{size_passes, suits}
use Rattle.labelling_laws.proofs.Arcs.{blocks_fit}
use Rattle.labelling_laws.proofs.PieceBlocks.{setting}
use Rattle.labelling_laws.proofs.LentNetworks.{lent_accepted}
use Rattle.labelling_laws.proofs.LabellingTheorems as theorems
use Rattle.labelling_laws.proofs.LabellingTheorems.{labels_are_distances, held_limited, reached_counts, few_extractions, few_insertions}
use Rattle.engine.specs.declared.blocks.Tables.{Tables}
use Rattle.engine.specs.declared.blocks.BlockHeaps.{BlockHeaps}
use Rattle.engine.specs.Tree.TreeWords.{tree_words, idle}
use Rattle.engine.specs.Labeller.Begins.{tables_for, prepared, fresh_arrays, begins}
use Rattle.engine.specs.Labeller.Mapped.{traced, mapped}
use Rattle.engine.specs.Labeller.ArcWords.{lent_arc, ArcsHeld}
use Rattle.engine.specs.Labeller.StepLoop.{store, IsLabelling, LabelAllGiven, LabelAllNeeds}

-- ---- the judgement

-- two causes before a third
two_refuse : (x y z : ℕ) → first_cause (x ∷ y ∷ []) ≢ 0 → first_cause (x ∷ y ∷ z ∷ []) ≡ first_cause (x ∷ y ∷ [])
unfolding first_cause
two_refuse x y z h = go (equality x 0) (equality y 0)
  where
    go : Equal x 0 → Equal y 0 → first_cause (x ∷ y ∷ z ∷ []) ≡ first_cause (x ∷ y ∷ [])
    go (differ t q) e = rw t
    go (equal t q) (differ u r) = rw (t, u)
    go (equal t q) (equal u r) = absurd (h (rw (t, u)))

two_pass : (x y z : ℕ) → first_cause (x ∷ y ∷ []) ≡ 0 → first_cause (x ∷ y ∷ z ∷ []) ≡ z
unfolding first_cause
two_pass x y z h = go (equality x 0) (equality y 0) (equality z 0)
  where
    go : Equal x 0 → Equal y 0 → Equal z 0 → first_cause (x ∷ y ∷ z ∷ []) ≡ z
    go (differ t q) e f = absurd (q (rw t at h))
    go (equal t q) (differ u r) f = absurd (r (rw (t, u) at h))
    go (equal t q) (equal u r) (equal w s) = rw (t, u, w) (sym s)
    go (equal t q) (equal u r) (differ w s) = rw (t, u, w)

-- the buffer of the labels has its size
module _ (n p : ℕ) (sizes vertices lengths : List ℕ) (source : ℕ) (buffer : List ℕ) (full : ◌≡◌ {A = ℕ} 0 (cond (has_places label_places buffer) 0 1)) where
  judged_is : judge_labelling n p sizes vertices lengths source buffer
      ≡ first_cause (judge_buffers (length sizes) (length vertices) (length lengths) ∷ judge_network n p sizes vertices lengths ∷ judge_source n source ∷ [])
  unfolding judge_labelling
  judged_is = passed (cond (has_places label_places buffer) 0 1) _ (sym full)

  pub judged_network : (k : ℕ) → k ≢ 0 → k ≡ judge_lent n p sizes vertices lengths → k ≡ judge_labelling n p sizes vertices lengths source buffer
  unfolding judge_lent
  judged_network k h e = sym (judged_is ∙ two_refuse _ _ _ (λ z. h (e ∙ z)) ∙ sym e)

  pub judged_source : 0 ≡ judge_lent n p sizes vertices lengths → (k : ℕ) → k ≡ judge_source n source → k ≡ judge_labelling n p sizes vertices lengths source buffer
  unfolding judge_lent
  judged_source h k e = sym (judged_is ∙ two_pass _ _ _ (sym h) ∙ sym e)

-- ---- an accepted network

-- the sizes of the k pieces from d on
sizes_pass : (n : ℕ) (sizes vertices lengths : List ℕ) (d k : ℕ) → judge_from n sizes vertices lengths d k ≡ 0 → (i : ℕ) → d ≤ i → i < d + k → get_or sizes i 0 ≤ max_size
unfolding judge_from
sizes_pass n sizes vertices lengths d zero h i a b = absurd (omega arith)
sizes_pass n sizes vertices lengths d (suc k) h i a b = ⊎_elim
    (λ (m : d < i). sizes_pass n sizes vertices lengths (suc d) k both.1.0 i m (omega arith))
    (λ (m : i ≤ d). let e : i ≡ d = omega arith in rw e (size_passes n (get_or sizes d 0) (piece_at sizes vertices lengths d) both.0))
    (split_at d i)
  where
    both : Every (λ x. x ≡ 0) (judge_piece n (get_or sizes d 0) (piece_at sizes vertices lengths d) ∷ judge_from n sizes vertices lengths (suc d) k ∷ [])
    both = no_cause (judge_piece n (get_or sizes d 0) (piece_at sizes vertices lengths d) ∷ judge_from n sizes vertices lengths (suc d) k ∷ []) h

module _ (n p : ℕ) (sizes vertices lengths : List ℕ) (source : ℕ) (buffer : List ℕ) (ok : judge_labelling n p sizes vertices lengths source buffer ≡ 0) where
  abbrev qs : List Piece
  qs = pieces_of p sizes vertices lengths

  accepted : Accepted n qs source
  accepted = lent_accepted n p sizes vertices lengths source buffer ok

  buffers : (length sizes ≡ size_places) × (length vertices ≡ vertex_places) × (length lengths ≡ length_places) × (length buffer ≡ label_places)
  unfolding judge_labelling has_places
  buffers =
      let causes = no_cause _ ok in
      let three = buffers_are (length sizes) (length vertices) (length lengths) causes.1.0 in
      (three.0, three.1, three.2, eqb-true _ _ (test_holds _ 0 causes.0))

  lengths_are : length lengths ≡ length_places
  lengths_are = buffers.2

  fits : Fits p sizes vertices
  unfolding judge_labelling judge_network
  fits =
      let causes = no_cause _ ok in
      let network = no_cause (judge_bounds n p ∷ judge_from n sizes vertices lengths 0 p ∷ []) causes.1.1.0 in
      record {
        pieces_in = (bounds_in n p network.0).1;
        small = λ d l. sizes_pass n sizes vertices lengths 0 p network.1.0 d (omega arith) (omega arith);
        vertices_in = buffers.1;
      }

  -- the prepared tables, with heaps of zeros, an idle tournament and blank buffers
  given : LabelAllGiven (lent_arc vertices lengths) (record { arrays = fresh_arrays (tables_for p sizes vertices lengths); labels = replicate label_places unreached; arcs = replicate label_places 0 }) source n qs
  given = record {
    traced = traced n p sizes vertices lengths source fits accepted;
    mapped = mapped n p sizes vertices lengths source fits accepted;
    running = begins (tables_for p sizes vertices lengths) (blocks qs) (prepared n p sizes vertices lengths fits (blocks_fit n qs (suits n qs accepted.pieces_pass)));
    setting = setting n qs source accepted;
    blank = refl;
    no_arcs = refl;
  }

  -- as the code has them
  module _ (matrix lent index : List (List ℕ)) (numbers zeros words cleared arcs : List ℕ) (long : ℕ) (rows : length lent ≡ vertex_places) (places : length zeros ≡ table_count)
      (a : matrix ≡ filled_matrix lent lengths) (b : numbers ≡ filled_tables zeros p sizes vertices) (g : index ≡ filled_blocks no_index matrix numbers)
      (f : words ≡ replicate (length {A = ℕ} (replicate max_words 0)) 0) (e : cleared ≡ replicate (length buffer) unreached)
      (all : long ≡ label_places) (z : arcs ≡ replicate long 0) where
    abbrev tables_now : Tables
    tables_now = record { matrix = matrix; index = index; numbers = numbers }

    abbrev fresh_heaps : BlockHeaps
    fresh_heaps = record { words = words; tree = record { keys = replicate tree_words idle } }

    pub may_begin : LabelAllGiven (lent_arc vertices lengths) (store tables_now (replicate vertex_places 0) fresh_heaps cleared arcs) source n qs
    unfolding filled_matrix filled_tables
    may_begin =
        let m : matrix ≡ matrix_of lengths = a ∙ simp (eq-eqb (length lent) vertex_places rows, eq-eqb (length lengths) length_places lengths_are) in
        let t : numbers ≡ tables_of p sizes vertices = b ∙ simp (eq-eqb (length zeros) table_count places) in
        let fresh : words ≡ replicate max_words 0 = f ∙ ap (λ (k : ℕ). replicate k 0) (length-replicate {A = ℕ} max_words 0) in
        rw (g, m, t, fresh, e, buffers.3, z, all) given

    pub can_label : LabelAllNeeds (store tables_now (replicate vertex_places 0) fresh_heaps cleared arcs) source
    can_label = record { arcs_by = lent_arc vertices lengths; n = n; pieces = qs; given = may_begin }

-- ---- what the entry returns and leaves

-- The labelling that keeps the arcs too. It is the labelling, but refused by 1 where the buffer of the arcs has another size; what is held there are
-- the arcs that the vertices were settled by. A refusal leaves both buffers.
pub record LabelArcsLeaves (n p : ℕ) (sizes vertices lengths : List ℕ) (source : ℕ) (buffer after arcs arcs-after : List ℕ) (r : LabelAnswer) : Type 0 where
  pub labelled : record { answer = r; labels = after }
      ≡ cond (has_places label_places arcs) (label_network n p sizes vertices lengths source buffer) (record { answer = label_refusal 1; labels = buffer })
  pub held : r.number ≡ 0 → ArcsHeld (lent_arc vertices lengths) (labelling (blocks (pieces_of p sizes vertices lengths)) source).settled arcs-after
  pub left : r.number ≢ 0 → arcs-after ≡ arcs

module _ (n p : ℕ) (sizes vertices lengths : List ℕ) (source : ℕ) (buffer : List ℕ) where
  abbrev cause : ℕ
  cause = judge_labelling n p sizes vertices lengths source buffer

  pub refused : (k : ℕ) → k ≡ cause → k ≢ 0 → record { answer = label_refusal k; labels = buffer } ≡ label_network n p sizes vertices lengths source buffer
  unfolding label_network
  refused k e h = let q : cause ≢ 0 = λ z. h (e ∙ z) in rw (ne_eqb cause 0 q, e)

  pub labelled : cause ≡ 0 → (r : LabelAnswer) (after arcs : List ℕ) → IsLabelling (lent_arc vertices lengths) (blocks (pieces_of p sizes vertices lengths)) source r after arcs
      → record { answer = r; labels = after } ≡ label_network n p sizes vertices lengths source buffer
  unfolding label_network
  labelled h r after arcs x = rw (eq-eqb cause 0 h, x.0, x.1)

  -- the same with the arcs
  module _ (arcs : List ℕ) where
    pub arcs_other : length arcs ≢ label_places → LabelArcsLeaves n p sizes vertices lengths source buffer buffer arcs arcs (label_refusal 1)
    unfolding has_places
    arcs_other h = record { labelled = simp (ne_eqb (length arcs) label_places h); held = λ z. absurd (omega arith); left = λ _. refl }

    module _ (full : length arcs ≡ label_places) where
      pub arcs_refused : (k : ℕ) → k ≡ cause → k ≢ 0 → LabelArcsLeaves n p sizes vertices lengths source buffer buffer arcs arcs (label_refusal k)
      unfolding has_places
      arcs_refused k e h = record { labelled = simp (eq-eqb (length arcs) label_places full) (refused k e h); held = λ z. absurd (h z); left = λ _. refl }

      pub arcs_labelled : cause ≡ 0 → (r : LabelAnswer) (after arcs-after : List ℕ)
          → IsLabelling (lent_arc vertices lengths) (blocks (pieces_of p sizes vertices lengths)) source r after arcs-after
          → LabelArcsLeaves n p sizes vertices lengths source buffer after arcs arcs-after r
      unfolding has_places label_answer
      arcs_labelled h r after arcs-after x = record {
        labelled = simp (eq-eqb (length arcs) label_places full) (labelled h r after arcs-after x);
        held = λ _. x.2;
        left = λ z. absurd (z (ap (λ (a : LabelAnswer). a.number) x.0));
      }

      pub labels_alone : (after arcs-after : List ℕ) (r : LabelAnswer) → LabelArcsLeaves n p sizes vertices lengths source buffer after arcs arcs-after r
          → record { answer = r; labels = after } ≡ label_network n p sizes vertices lengths source buffer
      unfolding has_places
      labels_alone after arcs-after r x = simp (eq-eqb (length arcs) label_places full) at x.labelled

  pub plain : (r : LabelAnswer) (after : List ℕ) → record { answer = r; labels = after } ≡ label_network n p sizes vertices lengths source buffer → r.number ≡ 0 → PlainLabels n p sizes vertices lengths source r after
  unfolding label_network label_answer
  plain r after e done = go (equality cause 0)
    where
      go : Equal cause 0 → PlainLabels n p sizes vertices lengths source r after
      go (differ t q) = absurd (q (sym (ap (λ (x : AfterLabel). x.answer.number) (rw t at e)) ∙ done))
      go (equal t q) =
          let ok = lent_accepted n p sizes vertices lengths source buffer q in
          let qs = pieces_of p sizes vertices lengths in
          let last = labelling (blocks qs) source in
          let a : r ≡ label_answer last = ap (λ (x : AfterLabel). x.answer) (rw t at e) in
          let b : after ≡ labels last = ap (λ (x : AfterLabel). x.labels) (rw t at e) in
          rw (a, b) (record {
            distances = labels_are_distances n qs source ok;
            limited = held_limited n qs source ok;
            above_n = theorems.above_n n qs source ok;
            reached_is = reached_counts n qs source ok;
            few_extracted = few_extractions n qs source ok;
            few_inserted = few_insertions n qs source ok;
          })
