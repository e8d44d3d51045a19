-- A call on words that hold a model leaves words that hold the next one, and its counts are the model's.
--   Becomes becomes                  the words hold another model; inserted and removed are the model's
--   ActivateGiven ActivateNeeds ActivateLeaves    an activation, of a given model; of some model; of any
--   Falls RowActivated               what it leaves, and how the least sum falls
--   PutWonNeeds PutWonLeaves won_can won_needs    the columns that are won get the row's intervals
--   marks_counted                    the marks of the columns that are reached
--   activated_none activated_some    nothing is won; columns are won
--   PutAllLeaves activated_all       all columns are won at once
--   removed_by ParentIs MinExtracted told_of inserted_of parent_of ExtractMinLeaves extracted-..    an extraction, from a given model; from any
use Rattle.std.specs.Prelude.{◌≡◌, Bool, ◌||◌, List, ◌++◌, ◌⊎◌, ◌≢◌, eqb, Option, Some, None}
use Rattle.std.proofs.Math.Path.{refl, sym, ap}
use Rattle.std.proofs.Common.{◌∙◌, inl, inr, ⊎_elim, le_refl}
use Rattle.std.proofs.Math.Bool.{true, false, cond, or-true, or-false}
use Prim.Native.Nat.{ℕ, suc, pred, ◌+◌, ◌-◌, ◌≤◌, ◌<◌}
use Rattle.std.proofs.Math.Nat.{zero-add}
use native.Mathlib.Omega.{arith}
use Rattle.std.proofs.Math.ListN.{length, get_or, set, length-append, length-set}
use Rattle.std.proofs.Math.Seq.{get_or-set_same, get_or-set_other}
use Rattle.definitions.specs.Limits.{max_label, row_places, unreached, below}
use Rattle.definitions.specs.Lists.{mem, count, Every}
use Rattle.definitions.specs.Monge.{is_closed}
use Rattle.definitions.specs.Best.{Best, nobody, by, lesser, least_from}
use Rattle.definitions.specs.Intervals.{count_new}
use Rattle.definitions.specs.Model.{Model, parent, available, is_activated, activate, extract, extraction_of, answer_of, intervals, least_left, Listed, Reached}
use Rattle.definitions.proofs.Laws.LeastLaws.{least_lowest, least_from_same}
use Rattle.definitions.specs.Labelling.{activation, extraction, place_in}
use Rattle.definitions.specs.HeapWords.{count_word, reached_word, heap_words, count_of, reached_of, mark_at, parent_at, last_at, best_sum_at, span, kept, listed_at}
use Rattle.definitions.specs.HeldModel.{lent_entry, is_reached, Holds}
use Rattle.definitions.proofs.Laws.RunProofs.{runs_none, runs_length}
use Rattle.basics.specs.ListLaws.{every_snoc, count_same, count_some, count_full}
use Rattle.heap_laws.specs.ModelCalls.{Activates}
use Rattle.heap_laws.proofs.ModelCalls.{step_activate, step_extract}
use Rattle.heap_laws.proofs.Parents.{parent_snoc, parent_row, parent_path}
use Rattle.heap_laws.specs.Won.{won, Range}
use Rattle.heap_laws.proofs.Won.{won_path, won_nowhere, won_between, range_of_ends}
use Rattle.heap_laws.proofs.Sound.{reached_step, reached_sound, extracted_lost}
use Rattle.heap_laws.proofs.Counting.{count_new_same, runs_distinct, balance}
use Rattle.heap_laws.specs.Edits.{before, from, cut_at}
use Rattle.heap_laws.specs.Activate.{labelled}
use Rattle.heap_laws.proofs.Activate.{closed_at, activate_none, activate_range, activate_edit, activate_inserted}
use Rattle.heap_laws.proofs.Extract.{extract_edit, extract_inserted}
use Rattle.heap_laws.specs.Bests.{SameSum}
use Rattle.heap_laws.proofs.Bests.{activate_same, activate_lowers}
use Rattle.logic.specs.Tests.{clash, split_at, Truth, holds, fails, truth, Order, less, more, order}
use Rattle.engine.specs.Heap.WordLaws.{word_end, Word, length_span, span_same, head_mark, marks_then, PutLeaves}
use Rattle.engine.specs.Heap.Clear.{rest, rest_len, CanReplace, left_of, right_of, count_after, Meets, Room, Cleared, clear_needs, cut_count, CutNeeds, CutLeaves}
use Rattle.engine.specs.Heap.RowBest.{StretchFits, drawn, RowBest, best_moves}
use Rattle.engine.specs.Heap.RowRuns.{open_sums, has_path, path_from, no_path_is, open_some, open_none, row_runs, some_run, full_run, RowReads, stretch_fits, PutRunsLeaves, runs_begin, runs_done}
use Rattle.engine.specs.Heap.Laid.{In, Laid}
use Rattle.engine.specs.Heap.Search.{reaches_first, WonAt, from_parent, as_first, LostAt, SearchLeaves}
use Rattle.engine.specs.Heap.Reaching.{Counted, Reaches, ReachLeaves, reach_none, WinsAll, MarkAllLeaves, reach_all}
use Rattle.engine.specs.Heap.Holds.{sound_of, run_at, within_cols, count_most, owned, sum_fits, Where, within, outside, where_is, bests_from_rows, laid, wins_is, first_won}
use Rattle.engine.specs.declared.heap.Activated.{Activated}
use Rattle.engine.specs.declared.heap.Rest.{Rest}
use Rattle.engine.specs.declared.heap.Extracted.{Extracted}
use Rattle.engine.specs.Heap.LeastColumn.{LeastIs, LeastLeaves, least_is_left}
use Rattle.engine.specs.Heap.Cuts.{cut_lengths, clear_trims, clear_kept, cut_count_lem, cut_kept, cut_trims}

-- the words u hold the model m' after m, and so many intervals are inserted and removed
pub record Becomes (u : List ℕ) (rows : List (List ℕ)) (col0 cols : ℕ) (labels : List ℕ) (m m' : Model) (inserted removed : ℕ) : Type 0 where
  pub held : Holds u rows col0 cols labels m'
  pub inserted_is : inserted ≡ count_new (intervals (lent_entry rows col0) cols m') (intervals (lent_entry rows col0) cols m)
  pub removed_is : removed ≡ count_new (intervals (lent_entry rows col0) cols m) (intervals (lent_entry rows col0) cols m')

length_kept : (w : List ℕ) → length (kept w) ≡ count_of w
unfolding kept
length_kept w = length_span w 0 (count_of w)

module _ (w u : List ℕ) (rows : List (List ℕ)) (col0 cols : ℕ) (labels : List ℕ) (m : Model) (h : Holds w rows col0 cols labels m) (m' : Model)
    (long : length u ≡ length w) (marked : (c : ℕ) → c < cols → mark_at u c ≡ cond (is_reached (parent (lent_entry rows col0) m'.activated c)) 1 0)
    (reached_are : reached_of u ≡ count (λ c. is_reached (parent (lent_entry rows col0) m'.activated c)) cols) (listed : kept u ≡ intervals (lent_entry rows col0) cols m')
    (labels_at : Every (λ a. get_or labels a.row 0 ≡ a.label) m'.activated) (reached : Reached (lent_entry rows col0) (length rows) cols m')
    (bests : (k : ℕ) → k < count_of u → RowBest rows col0 labels (listed_at u k)) where
  -- as many are removed as makes the lengths come out
  becomes : (inserted removed : ℕ) → inserted ≡ count_new (intervals (lent_entry rows col0) cols m') (intervals (lent_entry rows col0) cols m)
      → inserted + count_of w ≡ removed + count_of u → Becomes u rows col0 cols labels m m' inserted removed
  unfolding intervals
  becomes inserted removed a b = record {
    held = record {
      checked = h.checked;
      long = omega (arith, h.long);
      labelled = h.labelled;
      listed = listed;
      bests = bests_from_rows u rows col0 cols labels m' listed labels_at (reached_sound (lent_entry rows col0) (length rows) cols m' reached) bests;
      marked = marked;
      reached_are = reached_are;
      labels_at = labels_at;
      reached = reached;
    };
    inserted_is = a;
    removed_is = omega (
      arith,
      balance (intervals (lent_entry rows col0) cols m') (intervals (lent_entry rows col0) cols m) (runs_distinct _ 0 cols) (runs_distinct _ 0 cols),
      length_kept w,
      length_kept u,
      ap length h.listed,
      ap length listed,
    );
  }

-- ---- an activation

-- the words hold the model m, and the row is one that it accepts with the label at its place
pub record ActivateGiven (w : List ℕ) (rows : List (List ℕ)) (col0 cols : ℕ) (labels : List ℕ) (row : ℕ) (m : Model) : Type 0 where
  pub held : Holds w rows col0 cols labels m
  pub row_in_lem : row < length rows
  pub row_new : is_activated row m.activated ≡ false
  pub high : m.floor ≤ get_or labels row 0
  pub limited : get_or labels row 0 ≤ max_label

abbrev pub ActivateNeeds : List ℕ → List (List ℕ) → ℕ → ℕ → List ℕ → ℕ → Type 0
ActivateNeeds w rows col0 cols labels row = (m : Model) × ActivateGiven w rows col0 cols labels row m

-- how the least sum falls from x to y: not at all where nothing is inserted, else to the sum that is returned, if that is less
pub record Falls (x y : Best) (inserted sum : ℕ) : Type 0 where
  pub none : inserted ≡ 0 → y ≡ x
  pub some : 0 < inserted → (c : ℕ) × SameSum y (lesser x (by c sum))

pub record RowActivated (u : List ℕ) (rows : List (List ℕ)) (col0 cols : ℕ) (labels : List ℕ) (m m' : Model) (r : Activated) : Type 0 where
  pub changed : Becomes u rows col0 cols labels m m' r.inserted r.removed
  pub falls : Falls (least_left (lent_entry rows col0) cols m) (least_left (lent_entry rows col0) cols m') r.inserted r.sum

abbrev pub ActivateLeaves : List ℕ → List ℕ → List (List ℕ) → ℕ → ℕ → List ℕ → ℕ → Activated → Type 0
ActivateLeaves w u rows col0 cols labels row r =
    (m : Model) → ActivateGiven w rows col0 cols labels row m → RowActivated u rows col0 cols labels m (activate m row (get_or labels row 0)) r

abbrev answered : ℕ → ℕ → ℕ → Activated
answered inserted removed sum = record { inserted = inserted; removed = removed; sum = sum }

-- one interval with all columns, and all columns are reached
pub record PutAllLeaves (w x : List ℕ) (rows : List (List ℕ)) (col0 : ℕ) (labels : List ℕ) (row cols : ℕ) : Type 0 where
  pub between : List ℕ
  pub put : PutLeaves (set w count_word 1) between 0 (drawn rows col0 labels row 0 cols)
  pub marked : MarkAllLeaves between x cols

-- the row wins columns from `first` up to `end`: the intervals lo up to hi meet them, and there is room for the row's own between their rests
pub record PutWonNeeds (w : List ℕ) (rows : List (List ℕ)) (col0 cols : ℕ) (labels : List ℕ) (row lo hi first end : ℕ) : Type 0 where
  pub laid : Laid w rows col0 labels
  pub stretch : Meets w lo hi first end
  pub room : Room w lo hi first end (length (row_runs rows col0 labels row first end))
  pub reads : RowReads rows col0 labels row end
  pub at_first : has_path rows col0 row first ≡ true
  pub at_last : has_path rows col0 row (end - 1) ≡ true
  -- where all columns are reached it has a path everywhere between
  pub full : reached_of w ≡ cols → (c : ℕ) → first ≤ c → c < end → has_path rows col0 row c ≡ true
  pub lasts : (k : ℕ) → k < count_of w → last_at w k < cols
  pub inside : end ≤ cols
  pub places : hi ≤ row_places

-- so these intervals can give way to what is left of them, with so many of the row's own between
pub won_can : {w : List ℕ} {rows : List (List ℕ)} {col0 cols : ℕ} {labels : List ℕ} {row lo hi first end : ℕ} (needs : PutWonNeeds w rows col0 cols labels row lo hi first end) (left right : Rest) (n : ℕ)
    → left ≡ left_of w lo hi first → right ≡ right_of w lo hi end → n ≡ length (row_runs rows col0 labels row first end) → CanReplace w rows col0 labels lo hi left right n
won_can needs left right n p q e =
    clear_needs _ _ _ _ needs.laid (omega (arith, needs.reads.row_in_lem)) (omega (arith, needs.reads.columns)) _ _ _ _ needs.stretch left right n p q
    (record { words = needs.room.words; room = omega (arith, e, needs.room.room); small = omega (arith, e, needs.room.small) })

-- v is w with these columns cleared and the row's intervals from place mid on, so many
pub record PutWonLeaves (w v : List ℕ) (rows : List (List ℕ)) (col0 : ℕ) (labels : List ℕ) (row lo hi first end : ℕ) (r : Activated) : Type 0 where
  pub between : List ℕ
  pub mid : ℕ
  pub rests : ℕ
  pub number : ℕ
  pub cleared : Cleared w between rows col0 labels lo hi first end number mid rests
  pub put : PutRunsLeaves between v rows col0 labels row mid number first end r.sum
  pub number_is : number ≡ length (row_runs rows col0 labels row first end)
  pub inserted_is : r.inserted ≡ rests + number
  pub removed_is : r.removed ≡ hi - lo

module _ (w : List ℕ) (rows : List (List ℕ)) (col0 cols : ℕ) (labels : List ℕ) (row : ℕ) (m : Model) (c : ActivateGiven w rows col0 cols labels row m) where
  abbrev next : Model
  next = activate m row (get_or labels row 0)

  next_reached : Reached (lent_entry rows col0) (length rows) cols next
  next_reached =
      let k = activation row (get_or labels row 0) in
      let a : Activates (length rows) m k = record { kind_is = refl; row_in_lem = c.row_in_lem; row_new = c.row_new; limited = c.limited; high = c.high } in
      rw (step_activate (lent_entry rows col0) (length rows) cols m k a) at (reached_step (lent_entry rows col0) (length rows) cols m k c.held.reached)

  next_labels : Every (λ a. get_or labels a.row 0 ≡ a.label) next.activated
  unfolding activate
  next_labels = every_snoc (λ a. get_or labels a.row 0 ≡ a.label) m.activated (record { row = row; label = get_or labels row 0 }) c.held.labels_at refl

  -- ---- the marks

  -- a column has a parent then if it had one, or if the row has a path there
  next_parent : (d : ℕ) → parent (lent_entry rows col0) next.activated d ≡ lesser (parent (lent_entry rows col0) m.activated d) (open_sums rows col0 labels row d)
  unfolding activate
  next_parent d = parent_snoc (lent_entry rows col0) m.activated (labelled row (get_or labels row 0)) d

  either_reached : (x y : Best) → is_reached (lesser x y) ≡ (is_reached x || is_reached y)
  unfolding lesser is_reached
  either_reached nobody y = refl
  either_reached (by p s) nobody = refl
  either_reached (by p s) (by q t) = go (order t s)
    where
      go : Order t s → is_reached (cond (below t s) (by q t) (by p s)) ≡ true
      go (less z _) = simp z
      go (more z _) = simp z

  next_is : (d : ℕ) → is_reached (parent (lent_entry rows col0) next.activated d) ≡ (is_reached (parent (lent_entry rows col0) m.activated d) || has_path rows col0 row d)
  unfolding is_reached
  next_is d = ap is_reached (next_parent d) ∙ either_reached (parent (lent_entry rows col0) m.activated d) (open_sums rows col0 labels row d) ∙ go (truth (has_path rows col0 row d))
    where
      go : Truth (has_path rows col0 row d) → (is_reached (parent (lent_entry rows col0) m.activated d) || is_reached (open_sums rows col0 labels row d)) ≡ (is_reached (parent (lent_entry rows col0) m.activated d) || has_path rows col0 row d)
      go (holds t) = rw (open_some rows col0 labels row d t, t)
      go (fails t) = rw (open_none rows col0 labels row d t, t)

  pub marks_counted : Counted w cols
  marks_counted = record {
    words = c.held.long;
    small = omega (arith, c.held.checked.inside);
    marks = λ d l. go d l (truth (is_reached (parent (lent_entry rows col0) m.activated d)));
    number = c.held.reached_are ∙ count_same _ _ cols (λ d l. eq d l (truth (is_reached (parent (lent_entry rows col0) m.activated d))));
  }
    where
      go : (d : ℕ) → d < cols → Truth (is_reached (parent (lent_entry rows col0) m.activated d)) → mark_at w d ≤ 1
      go d l (holds t) = omega (arith, simp t at (c.held.marked d l))
      go d l (fails t) = omega (arith, simp t at (c.held.marked d l))

      eq : (d : ℕ) → d < cols → Truth (is_reached (parent (lent_entry rows col0) m.activated d)) → is_reached (parent (lent_entry rows col0) m.activated d) ≡ eqb (mark_at w d) 1
      eq d l (holds t) = let q : mark_at w d ≡ 1 = simp t at (c.held.marked d l) in rw (t, q)
      eq d l (fails t) = let q : mark_at w d ≡ 0 = simp t at (c.held.marked d l) in rw (t, q)

  -- they stay when the row gets its columns
  pub marks_after : (v : List ℕ) (lo hi first end : ℕ) (r : Activated) → PutWonLeaves w v rows col0 labels row lo hi first end r → Counted v cols
  marks_after v lo hi first end r x =
      let same = marks_then x.put.outside.marked x.cleared.marked in
      record {
        words = omega (arith, x.put.outside.long, x.cleared.long, c.held.long);
        small = marks_counted.small;
        marks = λ d l. rw (same.each d) (marks_counted.marks d l);
        number = same.number ∙ marks_counted.number ∙ count_same _ _ cols (λ d l. rw (same.each d));
      }

  -- u marks in addition what the row has a path at, between `first` and `end`; of no other column is it the first
  module _ (u : List ℕ) (first end : ℕ) (r : Reaches w u rows col0 cols row first end)
      (lost : (d : ℕ) → d < cols → (d < first) ⊎ (end ≤ d) → reaches_first w rows col0 row d ≡ false) where
    marks_next : (d : ℕ) → d < cols → mark_at u d ≡ cond (is_reached (parent (lent_entry rows col0) next.activated d)) 1 0
    unfolding reaches_first
    marks_next d l = go (truth (has_path rows col0 row d)) (truth (is_reached (parent (lent_entry rows col0) m.activated d)))
      where
        old : mark_at u d ≡ mark_at w d → is_reached (parent (lent_entry rows col0) m.activated d) ≡ is_reached (parent (lent_entry rows col0) next.activated d)
            → mark_at u d ≡ cond (is_reached (parent (lent_entry rows col0) next.activated d)) 1 0
        old q z = q ∙ c.held.marked d l ∙ ap (λ (b : Bool). cond {A = ℕ} b 1 0) z

        outer : (d < first) ⊎ (end ≤ d) → has_path rows col0 row d ≡ true → Truth (is_reached (parent (lent_entry rows col0) m.activated d)) → mark_at u d ≡ cond (is_reached (parent (lent_entry rows col0) next.activated d)) 1 0
        outer o t (holds v) = old (r.outside d o) (rw (next_is d, v))
        outer o t (fails v) =
            let q : mark_at w d ≡ 0 = simp v at (c.held.marked d l) in
            absurd (clash (simp (q, t) refl) (lost d l o))

        go : Truth (has_path rows col0 row d) → Truth (is_reached (parent (lent_entry rows col0) m.activated d)) → mark_at u d ≡ cond (is_reached (parent (lent_entry rows col0) next.activated d)) 1 0
        go (fails t) v = old (r.without d t) (rw (next_is d, t, or-false))
        go (holds t) v = ⊎_elim
            (λ (a : d < first). outer (inl a) t v)
            (λ (a : first ≤ d). ⊎_elim
            (λ (b : d < end). r.inside d a b t ∙ rw (next_is d, t, or-true))
            (λ (b : end ≤ d). outer (inr b) t v)
            (split_at d end))
            (split_at d first)

    reached_next : reached_of u ≡ count (λ d. is_reached (parent (lent_entry rows col0) next.activated d)) cols
    reached_next = r.marks.number ∙ count_same _ _ cols (λ d l. eq d l (truth (is_reached (parent (lent_entry rows col0) next.activated d))))
      where
        eq : (d : ℕ) → d < cols → Truth (is_reached (parent (lent_entry rows col0) next.activated d)) → eqb (mark_at u d) 1 ≡ is_reached (parent (lent_entry rows col0) next.activated d)
        eq d l (holds t) = let q : mark_at u d ≡ 1 = simp t at (marks_next d l) in rw (t, q)
        eq d l (fails t) = let q : mark_at u d ≡ 0 = simp t at (marks_next d l) in rw (t, q)

  -- ---- what is won

  -- columns of the row can be read
  row_reads : (end : ℕ) → end ≤ cols → RowReads rows col0 labels row end
  row_reads end l = record {
    row_in_lem = c.row_in_lem;
    labelled = c.held.labelled;
    small = omega (arith, c.row_in_lem, c.held.checked.few);
    columns = omega (arith, c.held.checked.inside);
    fits = λ d a n. sum_fits w rows col0 cols labels m c.held row d c.row_in_lem (omega arith) n c.limited;
  }

  -- the code's test over the words is the model's over the columns
  won_is : (d : ℕ) → d < cols → WonAt w rows col0 labels row d → won (lent_entry rows col0) m.activated row (get_or labels row 0) d ≡ true
  won_is d l (from_parent k a i t) = sym (wins_is w rows col0 cols labels m c.held row k d a i) ∙ t
  won_is d l (as_first t) = first_won w rows col0 cols labels m c.held row c.row_in_lem c.high d l t

  lost_is : (d : ℕ) → d < cols → LostAt w rows col0 labels row d → won (lent_entry rows col0) m.activated row (get_or labels row 0) d ≡ false
  unfolding reaches_first available is_reached
  lost_is d l (f, t) = go (where_is w rows col0 cols labels m c.held d l)
    where
      -- nobody has it: it is extracted, or the row has no path there
      free : parent (lent_entry rows col0) m.activated d ≡ nobody → Truth (has_path rows col0 row d) → won (lent_entry rows col0) m.activated row (get_or labels row 0) d ≡ false
      free q (holds u) = let z : mark_at w d ≡ 0 = rw q at (c.held.marked d l) in absurd (clash (simp (z, u) refl) t)
      free q (fails u) = won_nowhere (lent_entry rows col0) m.activated row (get_or labels row 0) d (no_path_is rows col0 row d u)

      out : available (lent_entry rows col0) m d ≡ nobody → Truth (mem d m.extracted) → won (lent_entry rows col0) m.activated row (get_or labels row 0) d ≡ false
      out q (holds u) = extracted_lost (lent_entry rows col0) (length rows) cols m (sound_of c.held) row (get_or labels row 0) d c.high u
      out q (fails u) = free (simp u at q) (truth (has_path rows col0 row d))

      go : Where w (available (lent_entry rows col0) m d) d → won (lent_entry rows col0) m.activated row (get_or labels row 0) d ≡ false
      go (within k a i) = sym (wins_is w rows col0 cols labels m c.held row k d a i) ∙ f k a i
      go (outside q) = out q (truth (mem d m.extracted))

  module _ (lo hi first end : ℕ) (f : SearchLeaves w rows col0 cols labels row lo hi first end) where
    pub activated_none : end ≤ first → RowActivated w rows col0 cols labels m next (answered 0 0 0)
    activated_none l =
        let all-lost : (x : ℕ) → x < cols → won (lent_entry rows col0) m.activated row (get_or labels row 0) x ≡ false = λ x b. lost_is x b (f.none l x b) in
        let q = activate_none (lent_entry rows col0) cols m row (get_or labels row 0) all-lost in
        let r = (reach_none w rows col0 cols row marks_counted 0 0 (λ d a b. absurd (omega arith))).reaches in
        let lost : (d : ℕ) → d < cols → (d < 0) ⊎ (0 ≤ d) → reaches_first w rows col0 row d ≡ false = λ d b o. (f.none l d b).1 in
        record {
          changed = becomes w w rows col0 cols labels m c.held next refl (marks_next w 0 0 r lost) (reached_next w 0 0 r lost) (c.held.listed ∙ sym q) next_labels next_reached
              (laid w rows col0 cols labels m c.held).bests 0 0 (rw q (sym (count_new_same (intervals (lent_entry rows col0) cols m)))) refl;
          falls = record { none = λ _. activate_same (lent_entry rows col0) m row (get_or labels row 0) cols all-lost; some = λ y. absurd (omega arith) };
        }

    module _ (l : first < end) where
      wins_first : won (lent_entry rows col0) m.activated row (get_or labels row 0) first ≡ true
      wins_first = won_is first (omega (arith, f.inside l)) (f.at_first l)

      wins_last : won (lent_entry rows col0) m.activated row (get_or labels row 0) (end - 1) ≡ true
      wins_last = won_is (end - 1) (omega (arith, f.inside l)) (f.at_last l)

      at_ends : Range (won (lent_entry rows col0) m.activated row (get_or labels row 0)) (is_closed (lent_entry rows col0) (length rows)) cols first end
      at_ends =
          let z : pred end ≡ end - 1 = omega arith in
          range_of_ends (won (lent_entry rows col0) m.activated row (get_or labels row 0)) (is_closed (lent_entry rows col0) (length rows)) cols first end
          (won_between (lent_entry rows col0) (length rows) cols c.held.checked.monge m.activated (sound_of c.held).in_rows row (get_or labels row 0) c.row_in_lem) l (f.inside l)
          wins_first (rw z wins_last) (λ x a. lost_is x (omega (arith, f.inside l)) (f.lost l x (omega (arith, f.inside l)) (inl a))) (λ x a b. lost_is x b (f.lost l x b (inr a)))

      edit : intervals (lent_entry rows col0) cols next ≡ before first (kept w) ++ (row_runs rows col0 labels row first end ++ from end (kept w))
      edit = rw c.held.listed
          (activate_edit (lent_entry rows col0) (length rows) cols m (sound_of c.held) row (get_or labels row 0) c.row_in_lem c.row_new c.high first end at_ends l)

      won_room : Room w lo hi first end (length (row_runs rows col0 labels row first end))
      unfolding intervals
      won_room =
          let n = cut_lengths w rows col0 labels (laid w rows col0 cols labels m c.held) lo hi first end (f.stretch l) in
          let k : count_after w lo hi first end (length (row_runs rows col0 labels row first end)) ≤ cols =
          omega (arith, n.0, n.1, simp length-append at (ap length edit), runs_length (available (lent_entry rows col0) next) 0 cols) in
          record {
            words = (laid w rows col0 cols labels m c.held).words;
            room = omega (arith, c.held.long);
            small = omega (arith, c.held.checked.inside);
          }

      path_at : (x : ℕ) → won (lent_entry rows col0) m.activated row (get_or labels row 0) x ≡ true → has_path rows col0 row x ≡ true
      path_at x t = path_from rows col0 row x (won_path (lent_entry rows col0) m.activated row (get_or labels row 0) x t)

      -- a column that is reached is not closed
      not_closed : (x : ℕ) → is_reached (parent (lent_entry rows col0) m.activated x) ≡ true → is_closed (lent_entry rows col0) (length rows) x ≡ false
      unfolding is_reached
      not_closed x t = go (parent (lent_entry rows col0) m.activated x) refl (truth (is_closed (lent_entry rows col0) (length rows) x))
        where
          go : (y : Best) → parent (lent_entry rows col0) m.activated x ≡ y → Truth (is_closed (lent_entry rows col0) (length rows) x) → is_closed (lent_entry rows col0) (length rows) x ≡ false
          go y q (fails u) = u
          go nobody q (holds u) = absurd (clash t (rw q))
          go (by p s) q (holds u) = absurd (parent_path (lent_entry rows col0) m.activated x p s q
              (closed_at (lent_entry rows col0) (length rows) x u p (parent_row (lent_entry rows col0) (length rows) m.activated x p s (sound_of c.held).in_rows q)))

      pub won_needs : PutWonNeeds w rows col0 cols labels row lo hi first end
      won_needs = record {
        laid = laid w rows col0 cols labels m c.held;
        stretch = f.stretch l;
        room = won_room;
        reads = row_reads end (f.inside l);
        at_first = path_at first wins_first;
        at_last = path_at (end - 1) wins_last;
        full = λ q x a b.
            let all : cols ≤ count (λ d. is_reached (parent (lent_entry rows col0) m.activated d)) cols = omega (arith, c.held.reached_are) in
            path_at x (at_ends.within x a b (not_closed x (count_full _ cols all x (omega (arith, f.inside l)))));
        lasts = within_cols w rows col0 cols labels m c.held;
        inside = f.inside l;
        places = omega (arith, (f.stretch l).inside, count_most w rows col0 cols labels m c.held, c.held.checked.inside);
      }

      module _ (u v x : List ℕ) (mid rests number sum : ℕ) (k : Cleared w u rows col0 labels lo hi first end number mid rests) (p : PutRunsLeaves u v rows col0 labels row mid number first end sum)
          (number_is : number ≡ length (row_runs rows col0 labels row first end)) (r : ReachLeaves v x rows col0 cols row first end) where
        -- each interval carries its best: those beside the gap, and those that fill it
        some_bests : (j : ℕ) → j < count_of v → RowBest rows col0 labels (listed_at v j)
        some_bests j b = ⊎_elim
            (λ (a : j < mid). best_moves rows col0 labels _ _ (p.outside.same j (inl a)) (k.bests j (omega (arith, p.outside.counted)) (inl a)))
            (λ (a : mid ≤ j). ⊎_elim
            (λ (d : j < mid + number). p.bests j a d)
            (λ (d : mid + number ≤ j). best_moves rows col0 labels _ _ (p.outside.same j (inr d)) (k.bests j (omega (arith, p.outside.counted)) (inr d)))
            (split_at j (mid + number)))
            (split_at j mid)

        -- the marks of v are those of w
        reaches_all : Reaches w x rows col0 cols row first end
        reaches_all =
            let same = marks_then p.outside.marked k.marked in
            record {
              marks = r.reaches.marks;
              inside = r.reaches.inside;
              without = λ d t. r.reaches.without d t ∙ same.each d;
              outside = λ d o. r.reaches.outside d o ∙ same.each d;
            }

        some_becomes : Becomes x rows col0 cols labels m next (rests + number) (hi - lo)
        some_becomes =
            let g = laid w rows col0 cols labels m c.held in
            let lost : (d : ℕ) → d < cols → (d < first) ⊎ (end ≤ d) → reaches_first w rows col0 row d ≡ false = λ d b o. (f.lost l d b o).1 in
            let same : kept x ≡ kept v = unfold kept in ap (λ (n : ℕ). span x 0 n) r.counted ∙ span_same x v 0 0 (count_of v) (λ j b. simp zero-add (r.same j)) in
            let listed : kept x ≡ intervals (lent_entry rows col0) cols next =
            same ∙ clear_kept w rows col0 labels g lo hi first end (f.stretch l) u number mid rests k v p.outside ∙ rw p.here (sym edit) in
            becomes w x rows col0 cols labels m c.held next (r.long ∙ p.outside.long ∙ k.long) (marks_next x first end reaches_all lost) (reached_next x first end reaches_all lost) listed next_labels next_reached
            (λ j b. best_moves rows col0 labels _ _ (r.same j) (some_bests j (omega (arith, r.counted)))) (rests + number) (hi - lo)
            (omega (
              arith,
              clear_trims w rows col0 labels g lo hi first end (f.stretch l) u number mid rests k,
              ap (cut_at first) c.held.listed,
              ap (cut_at end) c.held.listed,
              number_is,
              activate_inserted (lent_entry rows col0) (length rows) cols m (sound_of c.held) row (get_or labels row 0) c.row_in_lem c.row_new c.high first end at_ends l,
            ))
            (omega (arith, r.counted, p.outside.counted, k.counted, k.number, (f.stretch l).inside, (f.stretch l).places))

        -- the least of the new sums is the least sum of the columns won
        some_falls : Falls (least_left (lent_entry rows col0) cols m) (least_left (lent_entry rows col0) cols next) (rests + number) sum
        some_falls =
            let b = p.least in
            let q : least_from (available (lent_entry rows col0) next) first (end - first) ≡ by b.0 sum =
            least_from_same _ _ first (end - first) (λ d a n. activate_range (lent_entry rows col0) (length rows) cols m (sound_of c.held) row (get_or labels row 0) c.row_in_lem c.row_new c.high first end at_ends d a (omega arith)) ∙ b.1 in
            let best = least_lowest (available (lent_entry rows col0) next) first (end - first) b.0 sum q in
            record {
              none = λ y. absurd (omega (arith, number_is, some_run rows col0 labels row first end l (path_at first wins_first)));
              some = λ _. (b.0, activate_lowers (lent_entry rows col0) m row (get_or labels row 0) cols first end at_ends b.0 sum best);
            }

      pub activated_some : (v x : List ℕ) (r : Activated) → PutWonLeaves w v rows col0 labels row lo hi first end r → ReachLeaves v x rows col0 cols row first end → RowActivated x rows col0 cols labels m next r
      activated_some v x r y z = record {
        changed = rw (y.inserted_is, y.removed_is) (some_becomes y.between v x y.mid y.rests y.number r.sum y.cleared y.put y.number_is z);
        falls = rw y.inserted_is (some_falls y.between v x y.mid y.rests y.number r.sum y.cleared y.put y.number_is z);
      }

  -- ---- all columns at once

  module _ (all : WinsAll w rows col0 cols row) where
    -- no column has a parent, so there is no interval
    nobody_yet : (d : ℕ) → d < cols → is_reached (parent (lent_entry rows col0) m.activated d) ≡ false
    nobody_yet d l = go (truth (is_reached (parent (lent_entry rows col0) m.activated d)))
      where
        go : Truth (is_reached (parent (lent_entry rows col0) m.activated d)) → is_reached (parent (lent_entry rows col0) m.activated d) ≡ false
        go (fails t) = t
        go (holds t) = absurd (omega (arith, count_some (λ k. is_reached (parent (lent_entry rows col0) m.activated k)) cols d l t, c.held.reached_are, all.fresh))

    no_interval : count_of w ≡ 0
    unfolding intervals available is_reached
    no_interval = sym (length_kept w) ∙ ap length (c.held.listed ∙ runs_none (available (lent_entry rows col0) m) 0 cols (λ d a b. go d (nobody_yet d (omega arith)) (truth (mem d m.extracted))))
      where
        none : (x : Best) → is_reached x ≡ false → x ≡ nobody
        none nobody t = refl
        none (by p s) t = absurd (clash refl t)

        go : (d : ℕ) → is_reached (parent (lent_entry rows col0) m.activated d) ≡ false → Truth (mem d m.extracted) → available (lent_entry rows col0) m d ≡ nobody
        go d t (holds u) = simp u
        go d t (fails u) = simp u (none (parent (lent_entry rows col0) m.activated d) t)

    first_of : (d : ℕ) → d < cols → reaches_first w rows col0 row d ≡ true
    unfolding reaches_first
    first_of d l = let q : mark_at w d ≡ 0 = simp (nobody_yet d l) at (c.held.marked d l) in rw (q, all.paths d l)

    pub all_fits : (heap_words cols ≤ length w) × (0 < cols) × StretchFits rows col0 labels row 0 cols
    all_fits = (c.held.long, c.held.checked.some, stretch_fits rows col0 labels row cols (row_reads cols (le_refl cols)) 0 cols (le_refl cols) (λ d a b. all.paths d b))

    all_found : SearchLeaves w rows col0 cols labels row 0 0 0 cols
    all_found =
        let some = c.held.checked.some in
        record {
          none = λ l. absurd (omega arith);
          stretch = λ _. record {
            places = le_refl 0;
            inside = omega arith;
            ordered = some;
            below = λ k l. absurd (omega arith);
            above = λ k l n. absurd (omega (arith, no_interval));
            start = λ l. absurd (omega arith);
            stop = λ l. absurd (omega arith);
          };
          inside = λ _. le_refl cols;
          at_first = λ _. as_first (first_of 0 some);
          at_last = λ _. as_first (first_of (cols - 1) (omega arith));
          lost = λ _ d l o. ⊎_elim (λ (a : d < 0). absurd (omega arith)) (λ (a : cols ≤ d). absurd (omega arith)) o;
        }

    module _ (v : List ℕ) (p : PutLeaves (set w count_word 1) v 0 (drawn rows col0 labels row 0 cols)) where
      one : 1 ≡ length (row_runs rows col0 labels row 0 cols)
      one = sym (full_run rows col0 labels row 0 cols c.held.checked.some (λ d a b. all.paths d b))

      all_cleared : Cleared w (set w count_word 1) rows col0 labels 0 0 0 cols 1 0 0
      unfolding left_of right_of rest rest_len span count_of reached_of
      all_cleared = record {
        long = length-set w count_word 1;
        marked = record {
          number = let z : reached_word ≢ count_word = omega arith in get_or-set_other w count_word reached_word 1 0 z;
          each = λ d. head_mark w count_word 1 d (omega arith);
        };
        counted = get_or-set_same w count_word 1 0 (omega (arith, c.held.long)) ∙ omega (arith, no_interval);
        place = refl;
        number = refl;
        left = refl;
        right =
            let z : count_of (set w count_word 1) - 1 ≡ 0 = omega (arith, get_or-set_same w count_word 1 0 (omega (arith, c.held.long))) in
            let y : count_of w - 0 ≡ 0 = omega (arith, no_interval) in
            rw (z, y);
        bests = λ k l o. absurd (⊎_elim (λ (a : k < 0). omega arith) (λ (a : 1 ≤ k). omega (arith, get_or-set_same w count_word 1 0 (omega (arith, c.held.long)))) o);
      }

      all_put : best_sum_at v 0 < word_end → PutRunsLeaves (set w count_word 1) v rows col0 labels row 0 1 0 cols (best_sum_at v 0)
      all_put small =
          let some = c.held.checked.some in
          runs_done (set w count_word 1) rows col0 labels row 0 1 0 cols one (set w count_word 1) 0 0 unreached
          (runs_begin (set w count_word 1) rows col0 labels row 0 1 0 cols some (all.paths 0 some) one (omega arith)) v (best_sum_at v 0) (le_refl 1) (all.paths (cols - 1) (omega arith))
          (record { put = p; small = small; least = go (order (best_sum_at v 0) unreached) })
        where
          go : Order (best_sum_at v 0) unreached → best_sum_at v 0 ≡ cond (below (best_sum_at v 0) unreached) (best_sum_at v 0) unreached
          go (less t _) = simp t
          go (more t l) = simp t (omega arith)

    pub activated_all : (x : List ℕ) (s : ℕ) → PutAllLeaves w x rows col0 labels row cols → Word (best_sum_at x 0) s → RowActivated x rows col0 cols labels m next (answered 1 0 s)
    unfolding best_sum_at
    activated_all x s y q =
        let v = y.between in
        let same : best_sum_at v 0 ≡ best_sum_at x 0 = sym (ap (λ (u : Listed). sum_of u.best) (y.marked.keeps.same 0)) in
        let long : length v ≡ length w = y.put.outside.long ∙ length-set w count_word 1 in
        let put = rw (same, ← q.is) at (all_put v y.put (omega (arith, same, q.is, q.fits))) in
        activated_some 0 0 0 cols all_found c.held.checked.some v x (answered 1 0 s)
        (record { between = set w count_word 1; mid = 0; rests = 0; number = 1; cleared = all_cleared v y.put; put = put; number_is = one v y.put; inserted_is = refl; removed_is = refl })
        (reach_all v x rows col0 cols row (omega (arith, long, c.held.long)) (omega (arith, c.held.checked.inside)) all.paths y.marked)
      where
        sum_of : Best → ℕ
        sum_of nobody = 0
        sum_of (by k t) = t

-- ---- an extraction

-- one interval is removed where a column is handed out
abbrev pub removed_by : Option (ℕ × ℕ) → ℕ
removed_by (Some (c, s)) = 1
removed_by None = 0

-- p, one of so many rows, is the parent of the column that is handed out; 0 where there is none
abbrev pub ParentIs : (ℕ → Best) → ℕ → Option (ℕ × ℕ) → ℕ → Type 0
ParentIs parents rows (Some (c, s)) p = (place_in (parents c) ≡ p) × (p < rows)
ParentIs parents rows None p = p ≡ 0

-- the column found is extracted and answered
pub record MinExtracted (u : List ℕ) (rows : List (List ℕ)) (col0 cols : ℕ) (labels : List ℕ) (m : Model) (answer : Option (ℕ × ℕ)) (inserted parent : ℕ) : Type 0 where
  pub changed : Becomes u rows col0 cols labels m (extract m (least_from (available (lent_entry rows col0) m) 0 cols)) inserted (removed_by answer)
  pub answer_is : answer_of answer ≡ extraction_of (least_from (available (lent_entry rows col0) m) 0 cols)
  pub parent_is : ParentIs (available (lent_entry rows col0) m) (length rows) answer parent

-- what the code answers: the column and its sum, how many intervals were inserted, and the column's parent
abbrev pub told_of : Option Extracted → Option (ℕ × ℕ)
told_of (Some x) = Some (x.column, x.sum)
told_of None = None

abbrev pub inserted_of : Option Extracted → ℕ
inserted_of (Some x) = x.inserted
inserted_of None = 0

abbrev pub parent_of : Option Extracted → ℕ
parent_of (Some x) = x.parent
parent_of None = 0

abbrev pub ExtractMinLeaves : List ℕ → List ℕ → List (List ℕ) → ℕ → List ℕ → Option Extracted → Type 0
ExtractMinLeaves w u rows col0 labels r =
    (cols : ℕ) (m : Model) → Holds w rows col0 cols labels m → MinExtracted u rows col0 cols labels m (told_of r) (inserted_of r) (parent_of r)

module _ (w : List ℕ) (rows : List (List ℕ)) (col0 cols : ℕ) (labels : List ℕ) (m : Model) (h : Holds w rows col0 cols labels m) where
  pub extracted_none : LeastLeaves w None → MinExtracted w rows col0 cols labels m None 0 0
  unfolding extract
  extracted_none g =
      let q : nobody ≡ least_from (available (lent_entry rows col0) m) 0 cols = least_is_left w rows col0 cols labels m h None g in
      record {
        changed = rw (← q) (becomes w w rows col0 cols labels m h m refl h.marked h.reached_are h.listed h.labels_at h.reached (laid w rows col0 cols labels m h).bests 0 0 (sym (count_new_same (intervals (lent_entry rows col0) cols m))) refl);
        answer_is = rw (← q);
        parent_is = refl;
      }

  module _ (k c : ℕ) (l : k < count_of w) (i : In w k c) where
    pub extracted_inside : (k < row_places) × (c < row_places)
    extracted_inside = (omega (arith, count_most w rows col0 cols labels m h, h.checked.inside), omega (arith, (run_at w rows col0 cols labels m h k l).high, h.checked.inside))

    module _ (s : ℕ) where
      gone : intervals (lent_entry rows col0) cols (extract m (by c s)) ≡ before c (kept w) ++ from (c + 1) (kept w)
      gone =
          let z : c + 1 ≡ suc c = omega arith in
          rw (h.listed, z) (extract_edit (lent_entry rows col0) cols m c s (omega (arith, (run_at w rows col0 cols labels m h k l).high)))

      few : cut_count w k c ≤ cols
      unfolding intervals
      few = omega (
        arith,
        cut_count_lem w rows col0 labels (laid w rows col0 cols labels m h) k c l i.0 i.1,
        ap length gone,
        runs_length (available (lent_entry rows col0) (extract m (by c s))) 0 cols,
      )

      pub extracted_needs : CutNeeds w rows col0 labels k c
      extracted_needs = record {
        laid = laid w rows col0 cols labels m h;
        inside = l;
        low = i.0;
        high = i.1;
        room = omega (arith, few, h.long);
        small = omega (arith, few, h.checked.inside);
      }

      pub extracted_some : LeastIs w (record { place = k; column = c; sum = s }) → (u : List ℕ) (rests p : ℕ) → CutLeaves w u rows col0 labels k c rests → p ≡ parent_at w k
          → MinExtracted u rows col0 cols labels m (Some (c, s)) rests p
      unfolding extract place_in
      extracted_some g u rests p x parent =
          let o = owned w rows col0 cols labels m h k c l i in
          let q : by c s ≡ least_from (available (lent_entry rows col0) m) 0 cols = least_is_left w rows col0 cols labels m h (Some (record { place = k; column = c; sum = s })) g in
          let e = laid w rows col0 cols labels m h in
          let z : c + 1 ≡ suc c = omega arith in
          let listed : kept u ≡ intervals (lent_entry rows col0) cols (extract m (by c s)) = cut_kept w rows col0 labels e k c l i.0 i.1 u rests x ∙ sym gone in
          let reached : Reached (lent_entry rows col0) (length rows) cols (extract m (by c s)) =
          rw (step_extract (lent_entry rows col0) (length rows) cols m extraction refl, ← q) at (reached_step (lent_entry rows col0) (length rows) cols m extraction h.reached) in
          let trims : rests ≡ cut_at c (intervals (lent_entry rows col0) cols m) + cut_at (suc c) (intervals (lent_entry rows col0) cols m) =
          rw (← h.listed, ← z) (cut_trims w rows col0 labels e k c l i.0 i.1 u rests x) in
          record {
            changed = rw (← q) (becomes w u rows col0 cols labels m h (extract m (by c s)) x.long (λ d a. x.marked.each d ∙ h.marked d a) (x.marked.number ∙ h.reached_are) listed h.labels_at reached x.bests rests 1
                (trims ∙ sym (extract_inserted (lent_entry rows col0) cols m c s (omega (arith, (run_at w rows col0 cols labels m h k l).high)))) (omega (arith, x.counted)));
            answer_is = rw (← q);
            parent_is = (rw o.1 (sym parent), omega (arith, o.2.row_in_lem));
          }
