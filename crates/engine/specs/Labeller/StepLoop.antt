-- The loop of the labelling: after k extractions the arrays hold the definition's state after k steps.
--   started_with counted_with       what is counted
--   Store store changed_store      all arrays that change, with the labels of the vertices and the words of their arcs
--   IsLabelling                   what is left in the end
--   AfterSteps turn-..            after k steps, for given pieces: a vertex that is extracted is settled already, or it is settled now
--   Underway AdvanceNeeds AdvanceLeaves step-..         the same for any pieces whose arrays these are
--   RunStepsNeeds RunStepsLeaves RunStepsKeeps run-..   the steps one after the other
--   LabelAllGiven LabelAllNeeds LabelAllLeaves label-.. fresh heaps and a blank buffer; the source is settled
use Rattle.std.specs.Prelude.{◌≡◌, ◌≢◌, get_or, replicate, Option, Some, None}
use Rattle.std.proofs.Math.Path.{refl, sym, ap}
use Rattle.std.proofs.Common.{◌∙◌}
use mathlib.Core.List.{List, [], ◌∷◌, ◌++◌, map}
use Rattle.std.proofs.Math.Option.{none, some}
use Prim.Native.Nat.{ℕ, suc, ◌+◌, ◌-◌, ◌≤◌, ◌<◌}
use native.Mathlib.Omega.{arith}
use Rattle.std.proofs.Math.ListN.{length, set, length-append}
use Rattle.std.proofs.lemmas.List.{length-replicate}
use Rattle.definitions.specs.Limits.{max_vertices, max_size, label_places, unreached}
use Rattle.definitions.specs.Lists.{total}
use Rattle.definitions.specs.Network.{Piece, RouteArc}
use Rattle.definitions.specs.Blocks.{Block, no_block, blocks}
use Rattle.definitions.specs.Best.{nobody, by}
use Rattle.definitions.specs.Labelling.{BlockState, extraction, fresh_block, activate_vertex, Settled, settled_at, State, label_of, chosen, arc_into, advance, steps, start, columns, labelling, reached, extractions, insertions, labels}
use Rattle.definitions.specs.Entries.{label_answer}
use Rattle.definitions.specs.declared.LabelAnswer.{LabelAnswer}
use Rattle.basics.specs.ListLaws.{every_at, every_all}
use Rattle.heap_laws.proofs.Activate.{closed_few}
use Rattle.labelling_laws.proofs.OneBlock as block
use Rattle.labelling_laws.specs.OneBlock.{Fit, inserted_most}
use Rattle.labelling_laws.specs.BlockSteps.{block_at, Setting}
use Rattle.labelling_laws.proofs.LoopLaws.{start_is, advance_old, advance_new, least_in_lem, labels_length, labels_none, labels_set, read_unsettled, read_settled}
use Rattle.labelling_laws.proofs.Ends.{start_extracts, step_extracts, goes, finished, reached_few, labels_short, extractions_bound, insertions_bound, welcome_start, welcome_step}
use Rattle.engine.specs.declared.blocks.BlockHeaps.{BlockHeaps}
use Rattle.engine.specs.declared.labelling.Step.{Step}
use Rattle.engine.specs.declared.blocks.Tables.{Tables}
use Rattle.engine.specs.Labeller.State.{Arrays, arrays, changed, Parted, Running, call_at}
use Rattle.engine.specs.Labeller.Counts.{activation_inserts, block_inserts, max_inserted, max_extracted}
use Rattle.engine.specs.Labeller.BlockCalls.{count_is, block_same}
use Rattle.engine.specs.Labeller.LentHeaps.{window_long}
use Rattle.engine.specs.Labeller.Insertions.{inserted_in, inserted_set, inserted_fresh, total_most}
use Rattle.engine.specs.Labeller.Mapped.{Mapped}
use Rattle.engine.specs.Labeller.Activations.{call_few}
use Rattle.engine.specs.Labeller.Vertices.{SettleGiven, SettleNeeds, SettleLeaves}
use Rattle.engine.specs.Labeller.ArcWords.{Traced, ArcsHeld, arcs_blank, arcs_more}
use Rattle.engine.specs.Labeller.Extractions.{Columned, chosen_of, VertexExtracted, ExtractNeeds, ExtractLeaves}

-- ---- what is counted

-- when the source is settled
abbrev pub started_with : ℕ → LabelAnswer
started_with inserted = record { number = 0; reached = 1; extracted = 0; inserted = inserted }

-- after one extraction more
abbrev pub counted_with : LabelAnswer → ℕ → ℕ → LabelAnswer
counted_with a vertices inserted = record { number = a.number; reached = a.reached + vertices; extracted = a.extracted + 1; inserted = a.inserted + inserted }

-- ---- all arrays

-- the arrays of the blocks, the labels of the vertices, and the words of the arcs that they were settled by
pub record Store : Type 0 where
  pub arrays : Arrays
  pub labels : List ℕ
  pub arcs : List ℕ

-- as the functions have them
abbrev pub store : Tables → List ℕ → BlockHeaps → List ℕ → List ℕ → Store
store t row_labels h labels arcs = record { arrays = arrays t row_labels h; labels = labels; arcs = arcs }

-- after a step
abbrev pub changed_store : Store → List ℕ → List ℕ → List ℕ → List ℕ → List ℕ → Store
changed_store s row_labels words tree labels arcs = record { arrays = changed s.arrays row_labels words tree; labels = labels; arcs = arcs }

-- what is left in the end: the answer, the labels, and the words of the arcs, which f reads
abbrev pub IsLabelling : (ℕ → RouteArc) → List Block → ℕ → LabelAnswer → List ℕ → List ℕ → Type 0
IsLabelling f bs source r labels-now arcs =
    (r ≡ label_answer (labelling bs source)) × (labels-now ≡ labels (labelling bs source)) × ArcsHeld f (labelling bs source).settled arcs

-- ---- how many

-- a block has at most so many rows and columns, and there are at most so many blocks
module _ {t : Tables} {bs : List Block} (parted : Parted t bs) where
  sides : (b : ℕ) → b < length bs → (length (get_or bs b no_block).rows ≤ max_size) × (length (get_or bs b no_block).cols ≤ max_size)
  sides b l =
      let h = parted.lies b l in
      (omega (arith, h.tall, h.checked.few, window_long t b (omega (arith, h.rows_in, parted.rows_are))), omega (arith, h.wide, h.checked.inside))

  columns_most : columns bs ≤ max_extracted
  unfolding columns
  columns_most = omega (arith, total_most (λ (b : Block). length b.cols) max_size bs (every_all _ bs no_block (λ b l. (sides b l).1)), parted.few)

  inserted_most_lem : total (map inserted_most bs) ≤ max_inserted
  inserted_most_lem = omega (arith, total_most inserted_most block_inserts bs (every_all _ bs no_block one), parted.few)
    where
      one : (b : ℕ) → b < length bs → inserted_most (get_or bs b no_block) ≤ block_inserts
      one b l =
          let k = get_or bs b no_block in
          omega (arith, sides b l, block.inserted_most_lem max_size k (λ _. omega (arith, closed_few k.lengths (length k.rows) (length k.cols), (sides b l).1)))

-- ---- after k steps

pub record AfterSteps (s : Store) (bs : List Block) (source k reached-now inserted : ℕ) : Type 0 where
  pub running : Running s.arrays bs (steps k (start bs source)).blocks
  pub shows : s.labels ≡ labels (steps k (start bs source))
  pub reached_is : reached-now ≡ reached (steps k (start bs source))
  pub extracted_is : extractions (steps k (start bs source)) ≡ k
  pub inserted_is : inserted ≡ insertions (steps k (start bs source))

columned : {t : Tables} {qs : List Piece} → Mapped t qs → Columned t (blocks qs)
columned m = record { numbers_in_lem = m.numbers_in_lem; cols_are = m.cols_are }

module _ {s : Store} {source n : ℕ} {qs : List Piece} (mapped : Mapped s.arrays.heaps.tables qs) (setting : Setting (blocks qs) n source)
    {k reached-now inserted : ℕ} (g : AfterSteps s (blocks qs) source k reached-now inserted) where
  abbrev bs : List Block
  bs = blocks qs

  abbrev st : State
  st = steps k (start bs source)

  extract_needs : ExtractNeeds s.arrays
  extract_needs = record { blocks = bs; states = st.blocks; running = g.running; columned = columned mapped }

  turn_few : (reached-now ≤ max_vertices) × (inserted ≤ max_inserted) × (length s.labels ≡ label_places)
  turn_few = (
    omega (arith, g.reached_is, reached_few bs n source setting k, setting.small),
    omega (arith, g.inserted_is, insertions_bound bs n source setting k, inserted_most_lem g.running.held.parted),
    ap length g.shows ∙ labels_length st,
  )

  -- no block has an interval
  module _ (end : chosen_of st.blocks ≡ nobody) where
    last : st ≡ labelling bs source
    unfolding chosen
    last = finished bs n source setting k end (omega (arith, g.extracted_is, extractions_bound bs n source setting k))

    stopped : (record { number = 0; reached = reached-now; extracted = k; inserted = inserted } ≡ label_answer (labelling bs source)) × (s.labels ≡ labels (labelling bs source))
    unfolding label_answer
    stopped = rw (← last) (rw (g.reached_is, g.inserted_is, g.extracted_is) refl, g.shows)

  module _ {f : ℕ → RouteArc} {words tree : List ℕ} {v z m arc : ℕ}
      (t : VertexExtracted f (Running (changed s.arrays s.arrays.heaps.row_labels words tree) (blocks qs)) (steps k (start (blocks qs) source)).blocks v z m arc) where
    abbrev i : ℕ
    i = t.block

    abbrev c : ℕ
    c = t.column

    first : chosen st ≡ by i z
    unfolding chosen
    first = t.first

    block_in : i < length bs
    block_in = omega (arith, t.block_in, count_is g.running.held)

    cols_same : get_or (get_or bs i no_block).cols c 0 ≡ v
    cols_same = rw (block_same g.running.held i) t.vertex_is

    -- the vertex, how many steps, how many intervals
    known : (1 ≤ v) × (v ≤ max_vertices) × (k < max_extracted) × (m ≤ activation_inserts)
    known =
        let f : Fit n (get_or bs i no_block) = every_at (Fit n) bs setting.fits i no_block block_in in
        let col : c < length (get_or bs i no_block).cols = rw (block_same g.running.held i) (least_in_lem (block_at st i) c z t.here) in
        let r = f.cols_in_lem c col in (
          omega (arith, r.0, cols_same),
          omega (arith, r.1, cols_same, setting.small),
          omega (arith, goes bs n source setting k i z first, columns_most g.running.held.parted),
          call_few g.running.held i block_in _ _ m t.called,
        )

    next : steps (k + 1) (start bs source) ≡ advance st
    unfolding steps
    next = let e : k + 1 ≡ suc k = omega arith in rw e

    one_more : extractions (steps (k + 1) (start bs source)) ≡ k + 1
    unfolding advance
    one_more = rw (next, first) (step_extracts i z st first ∙ omega (arith, g.extracted_is))

    abbrev after : List BlockState
    after = call_at st.blocks i extraction

    counted : inserted_in after ≡ inserted + m
    unfolding insertions
    counted = inserted_set st.blocks i _ m t.block_in t.called.inserted_is ∙ omega (arith, g.inserted_is)

    -- the vertex is settled already
    state_old : get_or s.labels (v - 1) 0 ≢ unreached → steps (k + 1) (start bs source) ≡ record { blocks = after; settled = st.settled }
    state_old full =
        let q = read_settled st v known.0 known.1 (rw g.shows at full) in
        next ∙ advance_old st i c z first t.here q.0 (rw t.vertex_is q.1)

    turn_old : get_or s.labels (v - 1) 0 ≢ unreached
        → AfterSteps (changed_store s s.arrays.heaps.row_labels words tree s.labels s.arcs) bs source (k + 1) reached-now (inserted + m)
    unfolding reached insertions labels
    turn_old full =
        let e = state_old full in
        record {
          running = rw e t.called.kept;
          shows = rw e g.shows;
          reached_is = rw e g.reached_is;
          extracted_is = one_more;
          inserted_is = rw e (sym counted);
        }

    -- it is settled now
    module _ (blank : get_or s.labels (v - 1) 0 ≡ unreached) where
      unsettled : label_of v st.settled ≡ none
      unsettled = read_unsettled st v known.0 known.1 (labels_short bs n source setting k v) (rw g.shows at blank)

      abbrev extracted_arrays : Arrays
      extracted_arrays = changed s.arrays s.arrays.heaps.row_labels words tree

      vertex_given : SettleGiven extracted_arrays v z qs after
      vertex_given = record {
        low = known.0;
        high = known.1;
        mapped = mapped;
        running = t.called.kept;
        welcome = rw t.vertex_is at (welcome_step bs n source setting k i z c first t.here (rw t.vertex_is unsettled));
      }

      vertex_needs : SettleNeeds extracted_arrays v z
      vertex_needs = record { pieces = qs; states = after; given = vertex_given }

      abbrev settled_now : Settled
      settled_now = settled_at v z (some (arc_into (block_at st i) c))

      state_new : steps (k + 1) (start bs source) ≡ record { blocks = map (activate_vertex v z) after; settled = st.settled ++ settled_now ∷ [] }
      state_new = rw t.vertex_is at (next ∙ advance_new st i c z first t.here (rw t.vertex_is unsettled))

      turn_new : (rowLabels' words' tree' arcs' : List ℕ) (m' : ℕ) → SettleLeaves extracted_arrays (changed s.arrays rowLabels' words' tree') v z m'
          → AfterSteps (changed_store s rowLabels' words' tree' (set s.labels (v - 1) z) arcs') bs source (k + 1) (reached-now + 1) (inserted + m + m')
      unfolding reached insertions
      turn_new rowLabels' words' tree' arcs' m' settles =
          let r = settles qs after vertex_given in
          let e = state_new in
          record {
            running = rw e r.kept;
            shows = ap (λ (xs : List ℕ). set xs (v - 1) z) g.shows ∙ sym (labels_set st (steps (k + 1) (start bs source)) v z _ unsettled (ap (λ (x : State). x.settled) e) known.0 known.1);
            reached_is = rw e (omega (arith, g.reached_is, length-append st.settled (settled_now ∷ [])));
            extracted_is = one_more;
            inserted_is = rw e (sym (r.counted ∙ omega (arith, counted)));
          }

      arcs_new : ArcsHeld f st.settled s.arcs → ArcsHeld f (steps (k + 1) (start bs source)).settled (set s.arcs (v - 1) arc)
      arcs_new held = rw state_new (arcs_more held v z _ arc known.0 known.1 unsettled t.arc_is)

-- ---- one step, for any pieces whose arrays these are

-- the source is settled, and after some steps the answer so far is a
pub record Underway (f : ℕ → RouteArc) (s : Store) (a : LabelAnswer) (source n : ℕ) (qs : List Piece) : Type 0 where
  pub mapped : Mapped s.arrays.heaps.tables qs
  pub traced : Traced f s.arrays.heaps.tables.numbers (blocks qs)
  pub setting : Setting (blocks qs) n source
  pub accepted : a.number ≡ 0
  pub steps_done : AfterSteps s (blocks qs) source a.extracted a.reached a.inserted
  pub arcs_held : ArcsHeld f (steps a.extracted (start (blocks qs) source)).settled s.arcs

pub record AdvanceNeeds (s : Store) (a : LabelAnswer) : Type 0 where
  pub arcs_by : ℕ → RouteArc
  pub source : ℕ
  pub n : ℕ
  pub pieces : List Piece
  pub underway : Underway arcs_by s a source n pieces

-- one extraction more, of at most so many; or the answer so far is the last one
abbrev pub Advanced : (LabelAnswer → Type 0) → Type 0 → LabelAnswer → Option LabelAnswer → Type 0
Advanced more ended a (Some b) = more b × (b.extracted ≡ a.extracted + 1) × (a.extracted < max_extracted)
Advanced more ended a None = ended

abbrev pub AdvanceLeaves : Store → Store → LabelAnswer → Option LabelAnswer → Type 0
AdvanceLeaves s s' a r = (f : ℕ → RouteArc) (source n : ℕ) (qs : List Piece) → Underway f s a source n qs
    → Advanced (λ next. Underway f s' next source n qs) (IsLabelling f (blocks qs) source a s'.labels s'.arcs) a r

module _ {s : Store} {a : LabelAnswer} (needs : AdvanceNeeds s a) where
  abbrev here : Underway needs.arcs_by s a needs.source needs.n needs.pieces
  here = needs.underway

  pub step_few : (a.reached ≤ max_vertices) × (a.inserted ≤ max_inserted) × (length s.labels ≡ label_places) × (length s.arcs ≡ label_places)
  step_few = let few = turn_few here.mapped here.setting here.steps_done in (few.0, few.1, few.2, here.arcs_held.long)

  pub step_begins : ExtractNeeds s.arrays
  step_begins = extract_needs here.mapped here.setting here.steps_done

  module _ (words tree : List ℕ) where
    abbrev extracted_now : Arrays
    extracted_now = changed s.arrays s.arrays.heaps.row_labels words tree

    pub step_ends : ExtractLeaves s.arrays extracted_now None → (f : ℕ → RouteArc) (source n : ℕ) (qs : List Piece) → Underway f s a source n qs
        → IsLabelling f (blocks qs) source a s.labels s.arcs
    step_ends done f source n qs u =
        let end = (done (blocks qs) _ f u.steps_done.running (columned u.mapped) u.traced).0 in
        let x = stopped u.mapped u.setting u.steps_done end in
        (rw (← u.accepted) at x.0, x.1, rw (← last u.mapped u.setting u.steps_done end) u.arcs_held)

    module _ {x : Step} (done : ExtractLeaves s.arrays extracted_now (Some x)) where
      abbrev v : ℕ
      v = x.vertex

      abbrev z : ℕ
      z = x.sum

      abbrev m : ℕ
      m = x.inserted

      abbrev arc : ℕ
      arc = x.arc

      extracted : (f : ℕ → RouteArc) (source n : ℕ) (qs : List Piece) (u : Underway f s a source n qs)
          → VertexExtracted f (Running extracted_now (blocks qs)) (steps a.extracted (start (blocks qs) source)).blocks v z m arc
      extracted f source n qs u = done (blocks qs) _ f u.steps_done.running (columned u.mapped) u.traced

      pub step_known : (1 ≤ v) × (v ≤ max_vertices) × (a.extracted < max_extracted) × (m ≤ activation_inserts)
      step_known = known here.mapped here.setting here.steps_done (extracted needs.arcs_by needs.source needs.n needs.pieces here)

      pub step_old : get_or s.labels (v - 1) 0 ≢ unreached → (f : ℕ → RouteArc) (source n : ℕ) (qs : List Piece) → Underway f s a source n qs
          → Underway f (changed_store s s.arrays.heaps.row_labels words tree s.labels s.arcs) (counted_with a 0 m) source n qs
      step_old full f source n qs u =
          let same : a.reached + 0 ≡ a.reached = omega arith in
          let x = extracted f source n qs u in
          record {
            mapped = u.mapped;
            traced = u.traced;
            setting = u.setting;
            accepted = u.accepted;
            steps_done = rw same (turn_old u.mapped u.setting u.steps_done x full);
            arcs_held = rw (state_old u.mapped u.setting u.steps_done x full) u.arcs_held;
          }

      module _ (blank : get_or s.labels (v - 1) 0 ≡ unreached) where
        pub step_settles : SettleNeeds extracted_now v z
        step_settles = vertex_needs here.mapped here.setting here.steps_done (extracted needs.arcs_by needs.source needs.n needs.pieces here) blank

        pub step_new : {rowLabels' words' tree' : List ℕ} {m' : ℕ} → SettleLeaves extracted_now (changed s.arrays rowLabels' words' tree') v z m'
            → (f : ℕ → RouteArc) (source n : ℕ) (qs : List Piece) → Underway f s a source n qs
            → Underway f (changed_store s rowLabels' words' tree' (set s.labels (v - 1) z) (set s.arcs (v - 1) arc)) (counted_with a 1 (m + m')) source n qs
        step_new {rowLabels' = rowLabels'} {words' = words'} {tree' = tree'} {m' = m'} settles f source n qs u =
            let sum : a.inserted + m + m' ≡ a.inserted + (m + m') = omega arith in
            let x = extracted f source n qs u in
            record {
              mapped = u.mapped;
              traced = u.traced;
              setting = u.setting;
              accepted = u.accepted;
              steps_done = rw sum at (turn_new u.mapped u.setting u.steps_done x blank rowLabels' words' tree' (set s.arcs (v - 1) arc) m' settles);
              arcs_held = arcs_new u.mapped u.setting u.steps_done x blank u.arcs_held;
            }

-- ---- the steps

abbrev pub RunStepsNeeds : Store → ℕ → Type 0
RunStepsNeeds s begun = AdvanceNeeds s (started_with begun)

abbrev pub RunStepsLeaves : Store → List ℕ → List ℕ → ℕ → LabelAnswer → Type 0
RunStepsLeaves s labels' arcs' begun r = (f : ℕ → RouteArc) (source n : ℕ) (qs : List Piece) → Underway f s (started_with begun) source n qs
    → IsLabelling f (blocks qs) source r labels' arcs'

-- whatever was started goes on
pub record RunStepsKeeps (s s' : Store) (begun : ℕ) (a : LabelAnswer) : Type 0 where
  pub goes_on : (f : ℕ → RouteArc) (source n : ℕ) (qs : List Piece) → Underway f s (started_with begun) source n qs → Underway f s' a source n qs

module _ {s : Store} {begun : ℕ} (needs : RunStepsNeeds s begun) where
  pub run_begun : RunStepsKeeps s s begun (started_with begun)
  run_begun = record { goes_on = λ f source n qs u. u }

  module _ {s' : Store} {a : LabelAnswer} (r : RunStepsKeeps s s' begun a) where
    abbrev underway_now : Underway needs.arcs_by s' a needs.source needs.n needs.pieces
    underway_now = r.goes_on needs.arcs_by needs.source needs.n needs.pieces needs.underway

    pub run_needs : AdvanceNeeds s' a
    run_needs = record { arcs_by = needs.arcs_by; source = needs.source; n = needs.n; pieces = needs.pieces; underway = underway_now }

    -- one step more, as promised
    pub run_next : (s'' : Store) (b : LabelAnswer) → AdvanceLeaves s' s'' a (Some b) → RunStepsKeeps s s'' begun b × (b.extracted ≡ a.extracted + 1) × (a.extracted < max_extracted)
    run_next s'' b done =
        let x = done needs.arcs_by needs.source needs.n needs.pieces underway_now in
        (record { goes_on = λ f source n qs u. (done f source n qs (r.goes_on f source n qs u)).0 }, x.1, x.2)

    -- there is none
    pub run_done : (labels' arcs' : List ℕ)
        → ((f : ℕ → RouteArc) (source n : ℕ) (qs : List Piece) → Underway f s' a source n qs → IsLabelling f (blocks qs) source a labels' arcs')
        → RunStepsLeaves s labels' arcs' begun a
    run_done labels' arcs' done f source n qs u = done f source n qs (r.goes_on f source n qs u)

-- ---- the source, then the steps

-- the tables are those of these pieces, the heaps hold fresh blocks, the labelling of these blocks is set, and both buffers are blank
pub record LabelAllGiven (f : ℕ → RouteArc) (s : Store) (source n : ℕ) (qs : List Piece) : Type 0 where
  pub mapped : Mapped s.arrays.heaps.tables qs
  pub traced : Traced f s.arrays.heaps.tables.numbers (blocks qs)
  pub running : Running s.arrays (blocks qs) (map fresh_block (blocks qs))
  pub setting : Setting (blocks qs) n source
  pub blank : s.labels ≡ replicate label_places unreached
  pub no_arcs : s.arcs ≡ replicate label_places 0

pub record LabelAllNeeds (s : Store) (source : ℕ) : Type 0 where
  pub arcs_by : ℕ → RouteArc
  pub n : ℕ
  pub pieces : List Piece
  pub given : LabelAllGiven arcs_by s source n pieces

abbrev pub LabelAllLeaves : Store → List ℕ → List ℕ → ℕ → LabelAnswer → Type 0
LabelAllLeaves s labels' arcs' source r = (f : ℕ → RouteArc) (n : ℕ) (qs : List Piece) → LabelAllGiven f s source n qs → IsLabelling f (blocks qs) source r labels' arcs'

module _ {f : ℕ → RouteArc} {s : Store} {source n : ℕ} {qs : List Piece} (given : LabelAllGiven f s source n qs) where
  abbrev fresh : List BlockState
  fresh = map fresh_block (blocks qs)

  source_in : (1 ≤ source) × (source ≤ max_vertices)
  source_in = (given.setting.low, omega (arith, given.setting.high, given.setting.small))

  source_given : SettleGiven s.arrays source 0 qs fresh
  source_given = record {
    low = source_in.0;
    high = source_in.1;
    mapped = given.mapped;
    running = given.running;
    welcome = welcome_start (blocks qs) n source given.setting;
  }

  source_done : (row_labels words tree : List ℕ) (m : ℕ) → SettleLeaves s.arrays (changed s.arrays row_labels words tree) source 0 m
      → AfterSteps (changed_store s row_labels words tree (set s.labels (source - 1) 0) s.arcs) (blocks qs) source 0 1 m
  unfolding steps reached insertions label_of
  source_done row_labels words tree m settles =
      let r = settles qs fresh source_given in
      let unlabelled : State = record { blocks = fresh; settled = [] } in
      record {
        running = rw (start_is (blocks qs) source) r.kept;
        shows = ap (λ (xs : List ℕ). set xs (source - 1) 0) (given.blank ∙ sym (labels_none fresh))
            ∙ sym (labels_set unlabelled (start (blocks qs) source) source 0 none refl (ap (λ (x : State). x.settled) (start_is (blocks qs) source)) given.setting.low source_in.1);
        reached_is = rw (start_is (blocks qs) source);
        extracted_is = start_extracts (blocks qs) source;
        inserted_is = rw (start_is (blocks qs) source) (sym (r.counted ∙ omega (arith, inserted_fresh (blocks qs))));
      }

  source_arcs : ArcsHeld f (steps 0 (start (blocks qs) source)).settled s.arcs
  unfolding steps
  source_arcs = rw (start_is (blocks qs) source, given.no_arcs) (arcs_blank f source)

module _ {s : Store} {source : ℕ} (needs : LabelAllNeeds s source) where
  pub label_source : (1 ≤ source) × (source ≤ max_vertices) × (length s.labels ≡ label_places)
  label_source =
      let r = source_in needs.given in
      (r.0, r.1, ap length needs.given.blank ∙ length-replicate {A = ℕ} label_places unreached)

  pub label_settles : SettleNeeds s.arrays source 0
  label_settles = record { pieces = needs.pieces; states = _; given = source_given needs.given }

  module _ {row_labels words tree : List ℕ} {m : ℕ} (settles : SettleLeaves s.arrays (changed s.arrays row_labels words tree) source 0 m) where
    abbrev begun : Store
    begun = changed_store s row_labels words tree (set s.labels (source - 1) 0) s.arcs

    pub label_started : (f : ℕ → RouteArc) (n : ℕ) (qs : List Piece) → LabelAllGiven f s source n qs → Underway f begun (started_with m) source n qs
    label_started f n qs b = record {
      mapped = b.mapped;
      traced = b.traced;
      setting = b.setting;
      accepted = refl;
      steps_done = source_done b row_labels words tree m settles;
      arcs_held = source_arcs b;
    }

    abbrev started_now : Underway needs.arcs_by begun (started_with m) source needs.n needs.pieces
    started_now = label_started needs.arcs_by needs.n needs.pieces needs.given

    pub label_steps : RunStepsNeeds begun m
    label_steps = record { arcs_by = needs.arcs_by; source = source; n = needs.n; pieces = needs.pieces; underway = started_now }

    pub label_long : {r : LabelAnswer} {labels' arcs' : List ℕ} → RunStepsLeaves begun labels' arcs' m r → (length labels' ≡ length s.labels) × (length arcs' ≡ length s.arcs)
    label_long g =
        let x = g needs.arcs_by source needs.n needs.pieces started_now in
        (ap length x.1 ∙ labels_length _ ∙ sym label_source.2, x.2.long ∙ sym started_now.arcs_held.long)
