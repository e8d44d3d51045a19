-- The main theorems about the heap of one block, each restated in full; the proofs cite the parts. Two stand in files of their own and are passed on
-- from here: won_one_range in `WonRange`, activation_inserts_lem in `ActivationInserts`.
-- They hold for Monge rectangles of any size, so the limit of 24 rows and columns is not needed, and for every list ks of calls of any
-- length and any kind, from the fresh model on. M1 to M8 number the steps of the argument, here and in the other files.
--   the rectangle    monge_test fast_check all_pairs one_crossing
--   the calls        one_more refused_changes_nothing
--   the model        parents_rise won_one_range won_owned won_outside outside_extracted outside_between floors
--   activate         activation_edits activation_wins_nothing activation_first
--   extract          extraction_none extraction_some extractions_least
--   the bests        bests_right extraction_reads_bests activation_lowers activation_keeps
--   extract          extraction_edits
--   the intervals    intervals_once
--   the counts       inserted_removed_kept counted_by_columns extraction_inserts_lem activation_inserts_lem activation_inserts_three insertions_allowed insertions_few
--   the places read  used_places
use Rattle.std.specs.Prelude.{◌≡◌, true, false, not, ◌&&◌, List, [], ◌∷◌, ◌++◌, map, ◌≢◌, ◌↔◌, ℕ, suc, ◌+◌, ◌-◌, ◌*◌, ◌≤◌, ◌<◌, eqb, length}
use Rattle.std.proofs.Math.Path.{refl}
use Rattle.std.proofs.Common.{arith}
use Rattle.definitions.specs.Limits.{sum, no_path}
use Rattle.definitions.specs.Metres.{IsNumber}
use Rattle.definitions.specs.Lists.{mem, every, Every}
use Rattle.definitions.specs.Network.{Rectangle}
use Rattle.definitions.specs.Monge.{Monge, is_monge, is_closed, closed}
use Rattle.definitions.specs.Best.{Best, by, lesser, least, Lowest}
use Rattle.definitions.specs.Intervals.{Interval, runs, Distinct, Rising, count_new}
use Rattle.definitions.specs.Model.{LeastLeft, through, parent, available, extract, Model, fresh, intervals, least_left, best_in, with_best, HasBest, Call, extracts, coded, nothing_left, judge, step, Trace, extend, trace, AllExtractLeast, allowances}
use Rattle.definitions.proofs.Model.{intervals_rise, each_has_best}
use Rattle.definitions.proofs.Laws.MongeLaws.{is_monge_is, is_monge_from}
use Rattle.definitions.proofs.Laws.RunProofs.{lookup, runs_length}
use Rattle.monge_laws.proofs.Inequality as inequality
use Rattle.monge_laws.specs.Neighbours.{is_monge_fast}
use Rattle.monge_laws.proofs.Neighbours.{fast_same}
use Rattle.heap_laws.proofs.Lesser.{from_is, up_to_is}
use Rattle.heap_laws.proofs.Parents as parents
use Rattle.heap_laws.specs.Won.{won, Range}
use Rattle.heap_laws.proofs.Won.{won_later, won_earlier}
use Rattle.heap_laws.proofs.Sound.{trace_sound, step_floor}
use Rattle.heap_laws.specs.ModelCalls.{Activates}
use Rattle.heap_laws.proofs.ModelCalls.{trace_snoc, trace_activate}
use Rattle.heap_laws.proofs.Counting.{runs_distinct}
use Rattle.heap_laws.specs.Edits.{before, from}
use Rattle.heap_laws.proofs.Activate as activation
use Rattle.heap_laws.proofs.Extract as extraction
use Rattle.heap_laws.proofs.Bests as bests
use Rattle.heap_laws.proofs.TraceCounts as traces
use Rattle.heap_laws.proofs.AllCalls.{trace_allowed, trace_extractions}
use Rattle.heap_laws.proofs.ColumnParents as columns
use Rattle.heap_laws.specs.ColumnParents.{Beside}
use Rattle.heap_laws.proofs.Agree as agree
pub use Rattle.heap_laws.proofs.WonRange.{won_one_range}
pub use Rattle.heap_laws.proofs.ActivationInserts.{activation_inserts_lem}

-- ---- the rectangle

-- The test of the check computes the inequality of all pairs of rows and of columns, neither more nor less.
pub monge_test : (e : Rectangle) (rows cols : ℕ) → is_monge e rows cols ≡ true ↔ Monge e rows cols
monge_test e rows cols = (is_monge_is e rows cols, is_monge_from e rows cols)

-- The check by neighbours computes the same: the inequality at neighbouring rows among those that have a path somewhere, for these at
-- neighbouring columns among those where one of the two rows has a path. It is linear in the table.
pub fast_check : (e : Rectangle) (rows cols : ℕ) → is_monge_fast e rows cols ≡ is_monge e rows cols
fast_check e rows cols = fast_same e rows cols

-- M1. What the inequality says of rows i ≤ j and columns k ≤ l: paths at (i, l) and (j, k) force paths at (i, k) and (j, l), and then
-- the inequality is that of numbers.
pub all_pairs : (e : Rectangle) (rows cols : ℕ) → Monge e rows cols
    → (i j k l : ℕ) → i ≤ j → j < rows → k ≤ l → l < cols
    → IsNumber (e i l) → IsNumber (e j k) → IsNumber (e i k) × IsNumber (e j l) × (e i k + e j l ≤ e i l + e j k)
all_pairs e rows cols ok = inequality.monge e rows cols ok

-- M2. Two rows a ≤ b with labels v and u cross at most once. Where b has a path and is strictly below a, or a has none, it is so at
-- every later column where a has a path; where a has a path and is strictly below b, or b has none, it is so at every earlier
-- column where b has a path. Both are M1 with the labels added on both sides.
pub one_crossing : (e : Rectangle) (rows cols : ℕ) → Monge e rows cols
    → (a b v u k l : ℕ) → a ≤ b → b < rows → k ≤ l → l < cols → IsNumber (e a l) → IsNumber (e b k)
    → ((IsNumber (e a k) → sum u (e b k) < sum v (e a k)) → IsNumber (e b l) × (sum u (e b l) < sum v (e a l)))
    × ((IsNumber (e b l) → sum v (e a l) < sum u (e b l)) → IsNumber (e a k) × (sum v (e a k) < sum u (e b k)))
one_crossing e rows cols ok a b v u k l ab hb kl hl al bk =
    (inequality.crossing_later e rows cols ok a b v u k l ab hb kl hl al bk, inequality.crossing_earlier e rows cols ok a b v u k l ab hb kl hl al bk)

-- ---- the calls

module _ (e : Rectangle) (rows cols : ℕ) (ks : List Call) where
  -- what the calls leave: the trace, its model, its intervals; and the trace with one call more
  abbrev pub done : Trace
  done = trace e rows cols ks

  abbrev pub model : Model
  model = done.model

  abbrev pub kept : List Interval
  kept = intervals e cols model

  abbrev pub more : Call → Trace
  more k = trace e rows cols (ks ++ k ∷ [])

  -- One call more is one step more: its answer is added at the end, what it inserts and removes to the counts.
  pub one_more : (k : Call) → more k ≡ extend e rows cols done k
  one_more k = trace_snoc e rows cols ks k

  -- A refused call answers with the number of its refusal. It leaves the model and both counts.
  pub refused_changes_nothing : (k : Call) → judge rows model k ≢ 0
      → more k ≡ record { model = model; answers = done.answers ++ coded (judge rows model k) ∷ []; inserted = done.inserted; removed = done.removed }
  refused_changes_nothing k h = rw trace_snoc (traces.extend_refused e rows cols done k h)

  -- M3. Parents rise with the columns. Were the parent q of d below the parent p of an earlier c, then neither sum would be below the
  -- parent's at the other's column, one of them strictly above by who was activated first: added up they contradict M1.
  pub parents_rise : Monge e rows cols → (c d p s q t : ℕ) → c ≤ d → d < cols → parent e model.activated c ≡ by p s → parent e model.activated d ≡ by q t → p ≤ q
  parents_rise ok c d p s q t cd hd x y = parents.parents_rise e rows cols ok model.activated (trace_sound e rows cols ks).in_rows c d cd hd p s q t x y

  -- M4 is won_one_range: the columns that a new row wins are a range, less its closed columns, and none of them is extracted. What the search for
  -- them rests on. Of the columns with a parent below the row it wins the later ones, of those with a parent above it the earlier
  -- ones.
  pub won_owned : Monge e rows cols → (r v : ℕ) → r < rows → (c d p s : ℕ) → c ≤ d → d < cols
      → (parent e model.activated d ≡ by p s → p ≤ r → won e model.activated r v c ≡ true → won e model.activated r v d ≡ true)
      × (parent e model.activated c ≡ by p s → r ≤ p → won e model.activated r v d ≡ true → won e model.activated r v c ≡ true)
  won_owned ok r v hr c d p s cd hd =
      let g = trace_sound e rows cols ks in
      (won_later e rows cols ok model.activated g.in_rows r v hr c d cd hd p s, won_earlier e rows cols ok model.activated g.in_rows r v hr c d cd hd p s)

  -- Of the columns outside every interval it wins those that are not extracted and where it has a path.
  pub won_outside : (r v c : ℕ) → c < cols → model.floor ≤ v → lookup c kept ≡ 0 → won e model.activated r v c ≡ (not (mem c model.extracted) && not (eqb (e r c) no_path))
  won_outside r v c hc high h = columns.won_outside e rows cols model c hc (trace_sound e rows cols ks) r v high h

  -- Whether a column outside every interval is extracted can be read from the activated rows: it is, if one of them has a path there.
  pub outside_extracted : (c : ℕ) → c < cols → lookup c kept ≡ 0 → mem c model.extracted ≡ not (every (λ a. eqb (e a.row c) no_path) model.activated)
  outside_extracted c hc h = columns.outside_extracted e rows cols model c hc (trace_sound e rows cols ks) h

  -- Those won lie after every interval of a lower row and before every interval of a higher row: else M1 would force a path of the parent
  -- there. So the columns won are the last of those of lower rows, the first of those of higher rows, and between them.
  pub outside_between : Monge e rows cols → (r v c : ℕ) → r < rows → c < cols → model.floor ≤ v → lookup c kept ≡ 0 → won e model.activated r v c ≡ true
      → Every (Beside r c) kept
  outside_between ok r v c hr hc high h w = columns.outside_between e rows cols model c hc (trace_sound e rows cols ks) r v high ok hr h w

  -- M5. The floor lies between: an extracted column has a parent and a least sum at most the floor; any other column that has a parent
  -- has a least sum at least the floor. A new row has a label at least the floor, so it lowers no least sum below the floor; an
  -- extraction takes the least of the sums that are left, and that is the new floor. So the floor never falls.
  pub floors : ((c : ℕ) → mem c model.extracted ≡ true → (p : ℕ) × (s : ℕ) × (parent e model.activated c ≡ by p s) × (s ≤ model.floor))
      × ((c p s : ℕ) → c < cols → available e model c ≡ by p s → model.floor ≤ s)
      × ((k : Call) → model.floor ≤ (more k).model.floor)
  unfolding extend
  floors =
      let g = trace_sound e rows cols ks in
      (λ c h. up_to_is _ _ (g.low c h), λ c p s l q. from_is _ p s _ (g.high c l) q, λ k. rw trace_snoc (step_floor e rows cols model k g))

  -- a column's sum through the row of a call, nobody where it has no path
  abbrev pub through_call : Call → ℕ → Best
  through_call k c = through e c (record { row = k.row; label = k.label })

  -- M6. The columns from `first` up to `end` are cut out of the intervals and become the intervals of the row that is activated, one for
  -- each longest run of columns there where it has a path: the others there are closed. Every other column keeps its parent, and the
  -- row had no column before.
  pub activation_edits : (k : Call) → Activates rows model k
      → (first end : ℕ) → Range (won e model.activated k.row k.label) (is_closed e rows) cols first end → first < end
      → intervals e cols (more k).model ≡ before first kept ++ (runs (through_call k) first (end - first) ++ from end kept)
  activation_edits k a first end w some = rw (trace_activate e rows cols ks k a)
      (activation.activate_edit e rows cols model (trace_sound e rows cols ks) k.row k.label a.row_in_lem a.row_new a.high first end w some)

  -- Where nothing is won, nothing changes.
  pub activation_wins_nothing : (k : Call) → Activates rows model k → ((c : ℕ) → c < cols → won e model.activated k.row k.label c ≡ false)
      → intervals e cols (more k).model ≡ kept
  activation_wins_nothing k a lost = rw (trace_activate e rows cols ks k a) (activation.activate_none e cols model k.row k.label lost)

  -- The first row that is activated gets all columns where it has a path: none has a parent yet, and so none is extracted.
  pub activation_first : (k : Call) → Activates rows model k → model.activated ≡ [] → intervals e cols (more k).model ≡ runs (through_call k) 0 cols
  activation_first k a none = rw (trace_activate e rows cols ks k a) (activation.activate_first e rows cols model (trace_sound e rows cols ks) k.row k.label none)

  -- M7. An extraction answers that nothing is left and leaves the model if no interval is left. Else it answers a column with its sum: among the columns
  -- that are left the least sum, and the lowest column of that sum. It does so exactly if no interval is left.
  pub extraction_none : (k : Call) → k.kind ≡ extracts → kept ≡ [] → step e rows cols model k ≡ record { model = model; answer = coded nothing_left }
  extraction_none k h none = extraction.extraction_none e rows cols model k h none

  pub extraction_some : (k : Call) → k.kind ≡ extracts → kept ≢ [] → (c : ℕ) × (s : ℕ) × LeastLeft e cols model c s
      × (step e rows cols model k ≡ record { model = extract model (by c s); answer = record { code = 0; column = c; sum = s } })
  extraction_some k h some = extraction.extraction_some e rows cols model k h some

  -- Over all calls: each extraction answers none exactly if no interval is left where its turn comes, else the least that is left.
  pub extractions_least : AllExtractLeast e rows cols fresh ks done.answers
  extractions_least = trace_extractions e rows cols ks

  -- The best of each interval is the least sum of its columns, with the lowest column that has it; after every list of calls. And the least of these bests
  -- is the least of all columns that are left, so that an extraction need not look at the columns.
  pub bests_right : Every (λ v. HasBest e model (with_best e model v)) kept
  bests_right = each_has_best e cols model

  pub extraction_reads_bests : least (map (best_in e model) kept) ≡ least_left e cols model
  extraction_reads_bests = bests.least_of_bests e cols model

  -- An activation lowers the least sum to the best of the columns won, if that is less; the closed columns between them have no sum. Where nothing is
  -- won it stays.
  pub activation_lowers : (k : Call) → Activates rows model k → (first end c s : ℕ) → Range (won e model.activated k.row k.label) (is_closed e rows) cols first end
      → Lowest (available e (more k).model) first (end - first) c s → bests.SameSum (least_left e cols (more k).model) (lesser (least_left e cols model) (by c s))
  activation_lowers k a first end c s wins best =
      let q = trace_activate e rows cols ks k a in
      rw q (bests.activate_lowers e model k.row k.label cols first end wins c s (rw q at best))

  pub activation_keeps : (k : Call) → Activates rows model k → ((c : ℕ) → c < cols → won e model.activated k.row k.label c ≡ false)
      → least_left e cols (more k).model ≡ least_left e cols model
  activation_keeps k a lost = rw (trace_activate e rows cols ks k a) (bests.activate_same e model k.row k.label cols lost)

  -- The column is cut out of its interval.
  pub extraction_edits : (c s : ℕ) → c < cols
      → intervals e cols (extract model (by c s)) ≡ before c kept ++ from (suc c) kept
  extraction_edits c s h = extraction.extract_edit e cols model c s h

  -- ---- the intervals

  -- They rise, each stands once, and there is at most one for each column. That they are exactly the longest runs stands beside their definition.
  pub intervals_once : Rising 0 kept × Distinct kept × (length kept ≤ cols)
  unfolding intervals
  intervals_once = (intervals_rise e cols model, runs_distinct (available e model) 0 cols, runs_length (available e model) 0 cols)

  -- ---- the counts

  -- M8. Over all calls, inserted = removed + kept. For one call both lists hold each interval once, so those in one and not in the other
  -- make up the difference of the lengths; then by induction over the list.
  pub inserted_removed_kept : done.inserted ≡ done.removed + length kept
  inserted_removed_kept = traces.trace_balance e rows cols ks

  -- A call inserts the intervals that were not there with the same parent, first and last column; their bests do not count (document 02, request 3).
  pub counted_by_columns : (k : Call) → (more k).inserted ≡ done.inserted + count_new (intervals e cols (more k).model) kept
  unfolding extend
  counted_by_columns k = rw trace_snoc refl

  -- An extraction inserts at most two intervals, the rests of the one that had the column.
  pub extraction_inserts_lem : (k : Call) → k.kind ≡ extracts → (more k).inserted ≤ done.inserted + 2
  unfolding extend
  extraction_inserts_lem k h = rw trace_snoc (omega (arith, traces.step_new_extract e rows cols model k h))

  -- An activation inserts at most three more than there are closed columns, by activation_inserts_lem. So at most three in every block without a
  -- closed column (document 02, request 7).
  pub activation_inserts_three : Monge e rows cols → closed e rows cols ≡ 0 → (k : Call) → (more k).inserted ≤ done.inserted + 3
  activation_inserts_three ok none k = omega (arith, activation_inserts_lem e rows cols ks ok k, none)

  -- Over all calls: so many at most by each activation that is done, two by each extraction that hands out a column, none by any other call.
  pub insertions_allowed : Monge e rows cols → done.inserted ≤ allowances (closed e rows cols) ks done.answers
  insertions_allowed ok = trace_allowed e rows cols ks ok

  -- Over all calls at most so many for each activated row and two for each extracted column.
  pub insertions_few : Monge e rows cols → done.inserted ≤ (3 + closed e rows cols) * length model.activated + 2 * length model.extracted
  insertions_few ok = traces.trace_few e rows cols ok ks

-- ---- the places read

-- Rectangles that agree on the rows and columns in use give the same trace, so it does not matter where the entries are kept.
pub used_places : (e e' : Rectangle) (rows cols : ℕ) → ((r c : ℕ) → r < rows → c < cols → e r c ≡ e' r c) → (ks : List Call) → trace e rows cols ks ≡ trace e' rows cols ks
used_places e e' rows cols same ks = agree.trace_agree e e' rows cols same ks
