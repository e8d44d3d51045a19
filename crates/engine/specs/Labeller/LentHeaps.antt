-- The heap of one block is lent out of the words of all heaps, and comes back.
--   replaced                                    the words with a part of them changed
--   heap_long window_long labels_long           how long the parts of a block are
--   rows_within block_left block_indexed        what a heap reads of its block
--   block_needs words_within lent_heap lent_holds    the words that are lent are the block's
--   back_here back_other back_long              the words afterwards: the block's, another block's, how many
use Rattle.std.specs.Prelude.{◌≡◌, refl, ◌⊎◌, ◌≢◌, List, ◌++◌, ℕ, ◌+◌, ◌-◌, ◌*◌, ◌≤◌, ◌<◌, get_or, length, take, drop}
use Rattle.std.proofs.Common.{sym, ap, ◌∙◌, inl, inr, take_at, drop_at, take-take, drop-drop, take-add}
use native.Mathlib.Omega.{arith}
use borrow.Rule.Slice.PartMut.{same_len_mid, mid_len, take_put, drop_put}
use Rattle.std.proofs.Math.ListN.{length-drop}
use Rattle.std.proofs.Math.Seq.{length-take-le}
use Rattle.definitions.specs.Limits.{vertex_places}
use Rattle.definitions.specs.Blocks.{Block, no_block}
use Rattle.definitions.specs.Labelling.{BlockState, no_block_state}
use Rattle.definitions.specs.HeapWords.{heap_words}
use Rattle.definitions.specs.HeldModel.{Holds}
use Rattle.preparation.specs.Prepared.{slot_in, row_in, col_in, cols_in, row_count_in, part_numbers, max_words}
use Rattle.engine.specs.Heap.RowBest.{HasIndex}
use Rattle.engine.specs.declared.blocks.Tables.{Tables}
use Rattle.engine.specs.Labeller.State.{Heaps, heap_in, window_in, index_in, labels_in, WordsAre, BlockLies, BlockNeeds, BlockLeaves, HoldsBlocks}

-- ---- a part of a list

-- n places before a place, and n places from a place on
part_before : (l l' : List ℕ) (a c n : ℕ) → take a l ≡ take a l' → c + n ≤ a → a ≤ length l → length l' ≡ length l → take n (drop c l) ≡ take n (drop c l')
part_before l l' a c n e m f s =
    sym (drop_at (take c l) (take n (drop c l)) c (length-take-le c l (omega arith)))
    ∙ ap (drop c) (sym (take-add c n l) ∙ sym (take-take (c + n) a l m) ∙ ap (take (c + n)) e ∙ take-take (c + n) a l' m ∙ take-add c n l')
    ∙ drop_at (take c l') (take n (drop c l')) c (length-take-le c l' (omega arith))

part_after : (l l' : List ℕ) (e c n : ℕ) → drop e l ≡ drop e l' → e ≤ c → take n (drop c l) ≡ take n (drop c l')
part_after l l' e c n q m =
    let z : c ≡ e + (c - e) = omega arith in
    ap (take n) (ap (λ (i : ℕ). drop i l) z ∙ sym (drop-drop (c - e) e l) ∙ ap (drop (c - e)) q ∙ drop-drop (c - e) e l' ∙ ap (λ (i : ℕ). drop i l') (sym z))

-- a part put in the place of the places from a up to e
abbrev pub replaced : ℕ → ℕ → List ℕ → List ℕ → List ℕ
replaced a e l part = take a l ++ (part ++ drop (e - a) (drop a l))

module _ (a e : ℕ) (l part : List ℕ) (ordered : a ≤ e) (inside : e ≤ length l) (lent : length part ≡ length (take (e - a) (drop a l))) where
  kept_long : length (replaced a e l part) ≡ length l
  kept_long = same_len_mid a (e - a) l part lent

  part_long : length part ≡ e - a
  part_long = lent ∙ mid_len a e l inside

  here : take (e - a) (drop a (replaced a e l part)) ≡ part
  here = rw (drop_at (take a l) (part ++ drop (e - a) (drop a l)) a (length-take-le a l (omega arith))) (take_at part (drop (e - a) (drop a l)) (e - a) part_long)

  elsewhere : (c n : ℕ) → (c + n ≤ a) ⊎ (e ≤ c) → take n (drop c (replaced a e l part)) ≡ take n (drop c l)
  elsewhere c n (inl m) = part_before (replaced a e l part) l a c n (take_put a (e - a) l part (omega arith)) m (omega (arith, kept_long)) (sym kept_long)
  elsewhere c n (inr m) = part_after (replaced a e l part) l e c n (drop_put a e l part ordered inside part_long) m

-- ---- the parts of a block

-- how long they are
module _ (t : Tables) (b : ℕ) where
  pub heap_long : (words : List ℕ) → slot_in t.numbers b + heap_words (cols_in t.numbers b) ≤ length words → length (heap_in t words b) ≡ heap_words (cols_in t.numbers b)
  unfolding heap_in
  heap_long words l = length-take-le (heap_words (cols_in t.numbers b)) (drop (slot_in t.numbers b) words) (rw length-drop (omega arith))

  pub window_long : row_in t.numbers b + row_count_in t.numbers b ≤ length t.matrix → length (window_in t b) ≡ row_count_in t.numbers b
  unfolding window_in
  window_long l = length-take-le (row_count_in t.numbers b) (drop (row_in t.numbers b) t.matrix) (rw length-drop (omega arith))

  pub labels_long : (row_labels : List ℕ) → row_in t.numbers b + row_count_in t.numbers b ≤ length row_labels → length (labels_in t row_labels b) ≡ row_count_in t.numbers b
  unfolding labels_in
  labels_long row_labels l = length-take-le (row_count_in t.numbers b) (drop (row_in t.numbers b) row_labels) (rw length-drop (omega arith))

-- ---- what a heap reads of its block

module _ {t : Tables} {row_labels : List ℕ} {b : ℕ} (needs : BlockNeeds t row_labels b) where
  abbrev lies : BlockLies t b (get_or needs.blocks b no_block)
  lies = needs.parted.lies b needs.block_in

  -- its rows lie within the arrays
  pub rows_within : (part_numbers * b + part_numbers ≤ length t.numbers) × (row_in t.numbers b + row_count_in t.numbers b ≤ vertex_places)
      × (length t.matrix ≡ vertex_places) × (length t.index ≡ vertex_places) × (length row_labels ≡ vertex_places)
  rows_within = (omega (arith, needs.parted.numbered, needs.block_in), lies.rows_in, needs.parted.rows_are, needs.parted.index_are, needs.labels_are)

  count : row_in t.numbers b + row_count_in t.numbers b - row_in t.numbers b ≡ row_count_in t.numbers b
  count = omega arith

  pub block_left : BlockLeaves t row_labels b (take (row_in t.numbers b + row_count_in t.numbers b - row_in t.numbers b) (drop (row_in t.numbers b) t.matrix)) (col_in t.numbers b)
      (cols_in t.numbers b) (take (row_in t.numbers b + row_count_in t.numbers b - row_in t.numbers b) (drop (row_in t.numbers b) row_labels))
  unfolding window_in labels_in
  block_left = record { rows_are = rw count; col0_is = refl; cols_is = refl; labels_are = rw count }

  pub block_indexed : HasIndex (take (row_in t.numbers b + row_count_in t.numbers b - row_in t.numbers b) (drop (row_in t.numbers b) t.index))
      (take (row_in t.numbers b + row_count_in t.numbers b - row_in t.numbers b) (drop (row_in t.numbers b) t.matrix)) (col_in t.numbers b) (cols_in t.numbers b)
  block_indexed = rw count (unfold window_in in unfold index_in in (record { inside = lies.checked.inside; indexed = lies.indexed }))

-- ---- the words of its heap

module _ {h : Heaps} {bs : List Block} {ss : List BlockState} (held : HoldsBlocks h bs ss) (b : ℕ) (l : b < length bs) where
  abbrev numbers : List ℕ
  numbers = h.tables.numbers

  pub block_needs : BlockNeeds h.tables h.row_labels b
  block_needs = record { blocks = bs; parted = held.parted; block_in = l; labels_are = held.labels_are }

  module _ (a e : ℕ) (is : WordsAre h.tables.numbers b a e) where
    -- they lie within the words
    pub words_within : (a ≤ e) × (e ≤ length h.words) × (length h.words ≡ max_words)
    words_within = let g = held.parted.lies b l in (omega (arith, is.begin, is.end), omega (arith, is.end, g.words_in, held.words_are), held.words_are)

    pub lent_heap : take (e - a) (drop a h.words) ≡ heap_in h.tables h.words b
    unfolding heap_in
    lent_heap = let z : slot_in numbers b + heap_words (cols_in numbers b) - slot_in numbers b ≡ heap_words (cols_in numbers b) = omega arith in rw (is.begin, is.end, z)

    pub lent_holds : (rows : List (List ℕ)) (col0 cols : ℕ) (labels : List ℕ) → BlockLeaves h.tables h.row_labels b rows col0 cols labels
        → Holds (take (e - a) (drop a h.words)) rows col0 cols labels (get_or ss b no_block_state).trace.model
    lent_holds rows col0 cols labels k = rw (lent_heap, k.rows_are, k.labels_are, k.col0_is, k.cols_is) (held.each b l)

    -- the part is back
    module _ (part : List ℕ) (lent : length part ≡ length (take (e - a) (drop a h.words))) where
      pub back_long : length (replaced a e h.words part) ≡ length h.words
      back_long = kept_long a e h.words part words_within.0 words_within.1 lent

      pub back_here : heap_in h.tables (replaced a e h.words part) b ≡ part
      unfolding heap_in
      back_here =
          let z : heap_words (cols_in numbers b) ≡ e - a = omega (arith, is.begin, is.end) in
          rw (z, sym is.begin) (here a e h.words part words_within.0 words_within.1 lent)

      pub back_other : (c : ℕ) → c < length bs → c ≢ b → heap_in h.tables (replaced a e h.words part) c ≡ heap_in h.tables h.words c
      unfolding heap_in
      back_other c r n = elsewhere a e h.words part words_within.0 words_within.1 lent (slot_in numbers c) (heap_words (cols_in numbers c))
          (rw (is.begin, is.end) (held.parted.apart c b r l n))
