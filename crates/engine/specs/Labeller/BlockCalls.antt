-- A call on the heap of one block is a call on its model, and the tournament follows its least sum.
--   accepted_is answered_in                  an activation that is not refused; a column that is handed out
--   played_after                             the tournament with a new key
--   played_lower played_same                 after an activation: the lesser of two keys; the same one
--   number_in block_same                     the blocks of the states
--   can_activate found_is_least              what the lent parts of a block allow, and what is found in them
--   extracted activated                      what a call leaves
use Rattle.std.specs.Prelude.{◌≡◌, refl, cond, List, ℕ, ◌+◌, ◌-◌, ◌<◌, min, get_or, set, take, drop, Option, Some, None}
use Rattle.std.proofs.Common.{sym, ◌∙◌, subst, arith}
use Rattle.std.proofs.Math.Path.{ap}
use Rattle.std.proofs.Math.ListN.{length, get_or-map}
use Rattle.std.proofs.lemmas.List.{length-map}
use Rattle.std.proofs.Math.Seq.{get_or-take, get_or-drop, get_or-set_same, get_or-set_other, map-set_same}
use Rattle.definitions.specs.HeldModel.{lent_entry, Holds}
use Rattle.definitions.specs.Limits.{below}
use Rattle.definitions.specs.Network.{Rectangle}
use Rattle.definitions.specs.Blocks.{Block, no_block}
use Rattle.definitions.specs.Best.{Best, nobody, by, lesser, least_from}
use Rattle.definitions.specs.Model.{Model, available, judge, activate, extract, extraction_of, Answer, answer_of, Call, Trace, extend}
use Rattle.definitions.specs.Labelling.{BlockState, no_block_state, activation, extraction, apply, least_of}
use Rattle.definitions.proofs.Laws.LeastLaws.{least_lowest}
use Rattle.logic.specs.Tests.{Order, less, more, order, Equal, equal, differ, equality}
use Rattle.heap_laws.specs.Sound.{Sound}
use Rattle.heap_laws.specs.Bests.{SameSum}
use Rattle.heap_laws.specs.ModelCalls.{Activates, Cases, activates, extracts, refuses}
use Rattle.heap_laws.proofs.ModelCalls.{cases, step_activate, step_extract}
use Rattle.heap_laws.proofs.Agree.{available_agree, least_from_agree, extend_agree}
use Rattle.preparation.specs.Prepared.{row_in, col_in, cols_in, row_count_in}
use Rattle.engine.specs.declared.heap.Lowest.{Lowest}
use Rattle.engine.specs.declared.heap.Activated.{Activated}
use Rattle.engine.specs.Heap.Holds.{sound_of}
use Rattle.engine.specs.Heap.LeastColumn.{LeastLeaves, best_of, least_is_left}
use Rattle.engine.specs.Heap.HeapCalls.{Becomes, ActivateGiven, Falls, RowActivated, removed_by, ParentIs, MinExtracted}
use Rattle.engine.specs.Tree.TreeWords.{leaves, Key, key_at, IsTournament, KeyChanged}
use Rattle.engine.specs.Labeller.State.{Heaps, with_words, heap_in, window_in, labels_in, label_at, WordsAre, BlockLeaves, BlockLies, HoldsBlock, HoldsBlocks, bests, call_at, CallDone, ExtractionDone, HeapActivated}
use Rattle.engine.specs.Labeller.LentHeaps.{replaced, window_long, lent_heap, back_here, back_other, back_long}

-- an activation that is not refused
pub accepted_is : (rows : ℕ) (m : Model) (r v : ℕ) → judge rows m (activation r v) ≡ 0 → Activates rows m (activation r v)
accepted_is rows m r v h = go (cases rows m (activation r v))
  where
    go : Cases rows m (activation r v) → Activates rows m (activation r v)
    go (activates a) = a
    go (extracts q) = absurd (omega arith)
    go (refuses n) = absurd (n h)

-- a column that an extraction hands out is one of those that it looks at
answered_in : (w : ℕ → Best) (cols c s : ℕ) → answer_of (Some (c, s)) ≡ extraction_of (least_from w 0 cols) → c < cols
answered_in w cols c s a = go (least_from w 0 cols) refl
  where
    go : (x : Best) → least_from w 0 cols ≡ x → c < cols
    go nobody q = absurd (omega (arith, ap (λ (y : Answer). y.code) (a ∙ ap extraction_of q)))
    go (by d t) q = omega (arith, ap (λ (y : Answer). y.column) (a ∙ ap extraction_of q), (least_lowest w 0 cols d t q).high)

-- the key of the lesser of two
key_lesser : (b : ℕ) → b < leaves → (z z' : Best) (c t x y : ℕ) → Key b z y → Key b (by c t) x → SameSum z' (lesser z (by c t)) → Key b z' (min y x)
unfolding lesser
key_lesser b l nobody nobody c t x y k h q = absurd q
key_lesser b l nobody (by d u) c t x y k h q = (omega arith, omega arith)
key_lesser b l (by a v) z' c t x y k h q = go (order t v) z' q
  where
    go : Order t v → (z' : Best) → SameSum z' (cond (below t v) (by c t) (by a v)) → Key b z' (min y x)
    go (less r m) nobody w = absurd (simp r at w)
    go (less r m) (by d u) w = let e : u ≡ t = simp r at w in (omega arith, omega arith)
    go (more r m) nobody w = absurd (simp r at w)
    go (more r m) (by d u) w = let e : u ≡ v = simp r at w in (omega arith, omega arith)

-- ---- the tournament

pub played_after : (ss : List BlockState) (b : ℕ) (y : BlockState) (tree tree' : List ℕ) (x : ℕ)
    → IsTournament (bests ss) tree → KeyChanged b x tree tree' → Key b (bests (set ss b y) b) x → IsTournament (bests (set ss b y)) tree'
unfolding KeyChanged
played_after ss b y tree tree' x h g k = g (bests ss) (bests (set ss b y)) h k (λ i m n. ap least_of (get_or-set_other ss b i y no_block_state n))

-- the key falls to that of the sum, if that is less
pub played_lower : (ss : List BlockState) (b : ℕ) (y : BlockState) (tree tree' : List ℕ) (n t x : ℕ) → b < leaves → 0 < n
    → IsTournament (bests ss) tree → KeyChanged b (min (key_at tree b) x) tree tree' → ((p : ℕ) → Key b (by p t) x) → Falls (bests ss b) (bests (set ss b y) b) n t
    → IsTournament (bests (set ss b y)) tree'
played_lower ss b y tree tree' n t x l p h g k f =
    let q = f.some p in
    played_after ss b y tree tree' (min (key_at tree b) x) h g (key_lesser b l (bests ss b) (bests (set ss b y) b) q.0 t x (key_at tree b) (h.leaf b l) (k q.0) q.1)

-- and stays where nothing is inserted
pub played_same : (ss : List BlockState) (b : ℕ) (y : BlockState) (tree : List ℕ) (n t : ℕ) → n ≡ 0
    → IsTournament (bests ss) tree → Falls (bests ss b) (bests (set ss b y) b) n t → IsTournament (bests (set ss b y)) tree
played_same ss b y tree n t z h f = record { size = h.size; leaf = λ i l. go i l (equality i b); played = h.played }
  where
    go : (i : ℕ) → i < leaves → Equal i b → Key i (bests (set ss b y) i) (key_at tree i)
    go i l (equal _ q) = subst (λ (x : Best). Key i x (key_at tree i)) (sym (ap (bests (set ss b y)) q ∙ f.none z ∙ ap (bests ss) (sym q))) (h.leaf i l)
    go i l (differ _ q) = subst (λ (x : Best). Key i x (key_at tree i)) (sym (ap least_of (get_or-set_other ss b i y no_block_state q))) (h.leaf i l)

-- ---- one block

module _ {h : Heaps} {bs : List Block} {ss : List BlockState} (held : HoldsBlocks h bs ss) where
  pub count_is : length ss ≡ length bs
  count_is = sym (length-map ss (λ (s : BlockState). s.block)) ∙ ap length held.blocks_are

  pub number_in : (b : ℕ) → b < length bs → b < length ss
  number_in b l = omega (arith, count_is)

  pub block_same : (b : ℕ) → get_or bs b no_block ≡ (get_or ss b no_block_state).block
  block_same b = ap (λ (xs : List Block). get_or xs b no_block) (sym held.blocks_are) ∙ get_or-map (λ s. s.block) ss b no_block_state

  module _ (b : ℕ) (l : b < length bs) where
    abbrev state : BlockState
    state = get_or ss b no_block_state

    abbrev model : Model
    model = (get_or ss b no_block_state).trace.model

    -- the block's window of the matrix, its columns there, and the labels of its rows
    abbrev window : List (List ℕ)
    window = window_in h.tables b

    abbrev col0 : ℕ
    col0 = col_in h.tables.numbers b

    abbrev cols : ℕ
    cols = cols_in h.tables.numbers b

    abbrev labels : List ℕ
    labels = labels_in h.tables h.row_labels b

    abbrev label : ℕ → ℕ
    label r = label_at h.tables h.row_labels b r

    -- the block's entries, in the matrix
    abbrev e : Rectangle
    e = lent_entry window col0

    lies : BlockLies h.tables b state.block
    lies = rw (block_same b) at (held.parted.lies b l)

    window_rows_lem : length window ≡ row_count_in h.tables.numbers b
    window_rows_lem = window_long h.tables b (omega (arith, lies.rows_in, held.parted.rows_are))

    tall : length window ≡ length state.block.rows
    tall = window_rows_lem ∙ lies.tall

    same : (i j : ℕ) → i < length window → j < cols → e i j ≡ state.block.lengths i j
    same i j m n = lies.same i j (omega (arith, tall)) (omega (arith, lies.wide))

    -- what the block's state is by its window
    pub call_is : (k : Call) → (apply state k).trace ≡ extend e (length window) cols state.trace k
    unfolding apply
    call_is k = rw (← tall, ← lies.wide) (sym (extend_agree e state.block.lengths (length window) cols same state.trace k (sound_of (held.each b l))))

    least_with : (m : Model) → Sound e (length window) cols m → least_from (available state.block.lengths m) 0 (length state.block.cols) ≡ least_from (available e m) 0 cols
    least_with m sound = rw (← lies.wide) (sym (least_from_agree e state.block.lengths (length window) cols same m sound.in_rows))

    least_is : least_of state ≡ least_from (available e model) 0 cols
    unfolding least_of
    least_is = least_with model (sound_of (held.each b l))

    -- the parent of the column that is handed out
    parent_same : (answer : Option (ℕ × ℕ)) (p : ℕ) → answer_of answer ≡ extraction_of (least_from (available e model) 0 cols) → ParentIs (available e model) (length window) answer p
        → ParentIs (available state.block.lengths model) (length state.block.rows) answer p
    parent_same None p a h = h
    parent_same (Some (c, s)) p a h =
        let low = answered_in (available e model) cols c s a in
        (rw (← available_agree e state.block.lengths (length window) cols same model (sound_of (held.each b l)).in_rows c low) h.0, omega (arith, h.1, tall))

    -- the label of row r, in the labels of the block's rows
    label_is : (r : ℕ) → r < length window → get_or labels r 0 ≡ label r
    unfolding labels_in
    label_is r m =
        get_or-take (row_count_in h.tables.numbers b) (drop (row_in h.tables.numbers b) h.row_labels) r 0 (omega (arith, window_rows_lem))
        ∙ get_or-drop (row_in h.tables.numbers b) h.row_labels r 0

    -- the words that are lent, and what else the heap reads
    module _ (a e' : ℕ) (is : WordsAre h.tables.numbers b a e') where
      abbrev lent_words : List ℕ
      lent_words = take (e' - a) (drop a h.words)

      pub can_activate : {lent_rows : List (List ℕ)} {c0 cs : ℕ} {lent_labels : List ℕ} → BlockLeaves h.tables h.row_labels b lent_rows c0 cs lent_labels
          → (r : ℕ) → judge (length state.block.rows) model (activation r (label r)) ≡ 0 → ActivateGiven lent_words lent_rows c0 cs lent_labels r model
      can_activate k r ok =
          let y = accepted_is (length state.block.rows) model r (label r) ok in
          let m : r < length window = omega (arith, y.row_in_lem, tall) in
          rw (lent_heap held b l a e' is, k.rows_are, k.labels_are, k.col0_is, k.cols_is) (record {
            held = held.each b l;
            row_in_lem = m;
            row_new = y.row_new;
            high = rw (label_is r m) y.high;
            limited = rw (label_is r m) y.limited;
          })

      -- the key of what is found
      pub found_is_least : (found : Option Lowest) → LeastLeaves lent_words found → best_of found ≡ bests ss b
      found_is_least found t =
          let g : LeastLeaves (heap_in h.tables h.words b) found = rw (lent_heap held b l a e' is) at t in
          least_is_left (heap_in h.tables h.words b) window col0 cols labels model (held.each b l) found g ∙ sym least_is

      -- the words with the block's part changed
      module _ (part : List ℕ) (lent : length part ≡ length (take (e' - a) (drop a h.words))) where
        abbrev after : Heaps
        after = with_words h (replaced a e' h.words part)

        held_after : (k : Call) → Holds part window col0 cols labels (apply state k).trace.model → HoldsBlocks after bs (call_at ss b k)
        held_after k g = record {
          parted = held.parted;
          blocks_are = map-set_same (λ (s : BlockState). s.block) ss b (apply state k) no_block_state (unfold apply in refl) ∙ held.blocks_are;
          words_are = back_long held b l a e' is part lent ∙ held.words_are;
          labels_are = held.labels_are;
          each = λ c r. go c r (equality c b);
        }
          where
            go : (c : ℕ) → c < length bs → Equal c b → HoldsBlock after c (get_or (call_at ss b k) c no_block_state)
            go c r (equal _ q) = rw (q, back_here held b l a e' is part lent, get_or-set_same ss b (apply state k) no_block_state (omega (arith, count_is))) g
            go c r (differ _ n) = rw (back_other held b l a e' is part lent c r n, get_or-set_other ss b c (apply state k) no_block_state n) (held.each c r)

        -- its least sum afterwards
        least_after : (k : Call) (m : Model) → (apply state k).trace.model ≡ m → Sound e (length window) cols m → bests (call_at ss b k) b ≡ least_from (available e m) 0 cols
        unfolding least_of apply
        least_after k m q sound = ap least_of (get_or-set_same ss b (apply state k) no_block_state (omega (arith, count_is))) ∙ rw q (least_with m sound)

        -- a call whose model and whose count are those of the heap
        called : (k : Call) (m : Model) (inserted removed : ℕ) → (apply state k).trace.model ≡ m → Becomes part window col0 cols labels model m inserted removed
            → CallDone (HoldsBlocks after bs) ss b k inserted
        unfolding extend
        called k m inserted removed q g = record {
          kept = held_after k (rw q g.held);
          inserted_is = ap (λ (t : Trace). t.inserted) (call_is k)
              ∙ rw (sym (ap (λ (t : Trace). t.model) (call_is k)) ∙ q) (ap (λ (n : ℕ). state.trace.inserted + n) (sym g.inserted_is));
        }

        pub extracted : {lent_rows : List (List ℕ)} {c0 cs : ℕ} {lent_labels : List ℕ} → BlockLeaves h.tables h.row_labels b lent_rows c0 cs lent_labels
            → (answer : Option (ℕ × ℕ)) (inserted parent : ℕ) → MinExtracted part lent_rows c0 cs lent_labels model answer inserted parent
            → ExtractionDone (HoldsBlocks after bs) ss b answer inserted parent
        unfolding extend
        extracted x answer inserted parent t =
            let g : MinExtracted part window col0 cols labels model answer inserted parent = rw (x.rows_are, x.labels_are, x.col0_is, x.cols_is) at t in
            record {
              called = called extraction (extract model (least_from (available e model) 0 cols)) inserted (removed_by answer)
                  (ap (λ (t : Trace). t.model) (call_is extraction) ∙ rw (step_extract e (length window) cols model extraction refl)) g.changed;
              answer_is = g.answer_is ∙ ap extraction_of (sym least_is);
              parent_is = parent_same answer parent g.answer_is g.parent_is;
            }

        pub activated : {lent_rows : List (List ℕ)} {c0 cs : ℕ} {lent_labels : List ℕ} → BlockLeaves h.tables h.row_labels b lent_rows c0 cs lent_labels
            → (r : ℕ) (y : Activated) → judge (length state.block.rows) model (activation r (label r)) ≡ 0
            → RowActivated part lent_rows c0 cs lent_labels model (activate model r (get_or lent_labels r 0)) y
            → HeapActivated after bs ss b (activation r (label r)) y
        unfolding extend
        activated x r y ok t =
            let k = activation r (label r) in
            let g : RowActivated part window col0 cols labels model (activate model r (get_or labels r 0)) y = rw (x.rows_are, x.labels_are, x.col0_is, x.cols_is) at t in
            let a : Activates (length window) model k = rw tall (accepted_is (length state.block.rows) model r (label r) ok) in
            let f : RowActivated part window col0 cols labels model (activate model r (label r)) y = rw (label_is r (omega (arith, a.row_in_lem))) at g in
            let m : (apply state k).trace.model ≡ activate model r (label r) = ap (λ (t : Trace). t.model) (call_is k) ∙ rw (step_activate e (length window) cols model k a) in
            record {
              called = called k (activate model r (label r)) y.inserted y.removed m f.changed;
              falls = rw (least_is, least_after k (activate model r (label r)) m (sound_of f.changed.held)) f.falls;
            }
