-- A vertex is settled on the arrays: its label is stored at its place in each piece that has it, and the place is activated.
--   SettleGiven SettleNeeds VertexActivated SettleLeaves    what the function needs and leaves
--   PiecesDone                                 the pieces before piece d are done, for given states
--   done_at skip reach                          the pieces up to the next place of the vertex
--   SettleKeeps settle_begun settle_long settle_done settle_few    the same for any states that the arrays hold
--   vertex_in_lem tables_long place_in             the ranges of the numbers that are read
--   place_needs settle_count settle_less settle_more    a place of the vertex
use Rattle.std.specs.Prelude.{◌≡◌, false, List, map, ◌≢◌, get_or, set}
use Rattle.std.proofs.Math.Path.{refl, ap}
use Rattle.std.proofs.Common.{sym, ◌∙◌, ⊎_elim, get_or-set_same}
use Rattle.std.proofs.Math.Option.{some}
use Prim.Native.Nat.{ℕ, zero, suc, pred, ◌+◌, ◌-◌, ◌*◌, ◌/◌, ◌≤◌, ◌<◌}
use native.Mathlib.Omega.{arith}
use Rattle.std.proofs.Math.ListN.{length}
use Rattle.definitions.specs.Limits.{max_vertices, max_pieces, max_size, row_places}
use Rattle.definitions.specs.Lists.{Every}
use Rattle.definitions.specs.Network.{Piece, size_of, no_piece}
use Rattle.definitions.specs.Blocks.{windows_of, Block, no_block, block_of, blocks}
use Rattle.definitions.specs.Model.{is_activated}
use Rattle.definitions.specs.Labelling.{BlockState, place_of, activate_vertex, no_block_state}
use Rattle.logic.specs.Tests.{split_at}
use Rattle.basics.specs.ListLaws.{every_at}
use Rattle.splits.specs.Windows.{Inside}
use Rattle.splits.proofs.Windows.{windows_inside}
use Rattle.basics.specs.PiecePlaces.{block_rows}
use Rattle.preparation.specs.Prepared.{row_in, row_count_in, table_count, start_in, next_in, first_in, size_in}
use Rattle.preparation.specs.Placements.{length_windows_of}
use Rattle.preparation.specs.Numbering.{no_window}
use Rattle.labelling_laws.proofs.VertexPlaces.{place_of_lem}
use Rattle.labelling_laws.specs.OneBlock.{Welcome}
use Rattle.engine.specs.declared.blocks.Tables.{Tables}
use Rattle.engine.specs.Labeller.State.{Arrays, changed, Running}
use Rattle.engine.specs.Labeller.Counts.{place_inserts, vertex_inserts}
use Rattle.engine.specs.Labeller.BlockCalls.{accepted_is, count_is, block_same}
use Rattle.engine.specs.Labeller.Begins.{relabelled}
use Rattle.engine.specs.Labeller.Insertions.{inserted_in}
use Rattle.engine.specs.Labeller.Descent.{block_in}
use Rattle.engine.specs.Labeller.Mapped.{first_of, StandsIn, NextIn, MappedPiece, Mapped, first_none, first_all}
use Rattle.engine.specs.Labeller.Settling.{PieceDone, piece_absent, Partly, partly_begun, partly_more, partly_all}
use Rattle.engine.specs.Labeller.Activations.{Spot, SpotReady, ActivatePlaceNeeds, ActivatePlaceLeaves}

-- the tables are those of these pieces, the arrays hold these states, and no activation of the vertex v with the label l is refused
pub record SettleGiven (a : Arrays) (v l : ℕ) (qs : List Piece) (ss : List BlockState) : Type 0 where
  pub low : 1 ≤ v
  pub high : v ≤ max_vertices
  pub mapped : Mapped a.heaps.tables qs
  pub running : Running a (blocks qs) ss
  pub welcome : Every (Welcome v l) ss

pub record SettleNeeds (a : Arrays) (v l : ℕ) : Type 0 where
  pub pieces : List Piece
  pub states : List BlockState
  pub given : SettleGiven a v l pieces states

-- v is activated in all blocks
pub record VertexActivated (holds : List BlockState → Type 0) (v l : ℕ) (ss : List BlockState) (inserted : ℕ) : Type 0 where
  pub kept : holds (map (activate_vertex v l) ss)
  pub counted : inserted_in (map (activate_vertex v l) ss) ≡ inserted_in ss + inserted

abbrev pub SettleLeaves : Arrays → Arrays → ℕ → ℕ → ℕ → Type 0
SettleLeaves a a' v l n = (qs : List Piece) (ss : List BlockState) → SettleGiven a v l qs ss → VertexActivated (Running a' (blocks qs)) v l ss n

-- the states that the arrays hold, when the pieces before piece d are done
pub record PiecesDone (holds : List BlockState → Type 0) (qs : List Piece) (v l : ℕ) (ss : List BlockState) (d inserted : ℕ) : Type 0 where
  pub states : List BlockState
  pub kept : holds states
  pub partly : Partly v l ss (first_of qs d) states inserted

-- how many of n pieces stand before the place that a word names; all of them where it names none
unfoldable pub done_at : ℕ → ℕ → ℕ
done_at n zero = n
done_at n (suc x) = x / row_places

all_done : (n link : ℕ) → link ≡ 0 → done_at n link ≡ n
unfolding done_at
all_done n link e = rw e

done_before : (n link : ℕ) → 0 < link → done_at n link ≡ (link - 1) / row_places
unfolding done_at
done_before n zero l = absurd (omega arith)
done_before n (suc x) l = let e : suc x - 1 ≡ x = omega arith in rw e

done_further : {qs : List Piece} {v : ℕ} (n d link : ℕ) → NextIn qs v d link → d ≤ n → d ≤ done_at n link
unfolding done_at
done_further n d zero next l = l
done_further n d (suc x) next l = (next.there x refl).0

climb : (P : ℕ → Type 0) (d k : ℕ) → ((e : ℕ) → d ≤ e → e < d + k → P e → P (e + 1)) → P d → P (d + k)
climb P d zero more x = let e : d + 0 ≡ d = omega arith in rw e x
climb P d (suc k) more x = let e : d + suc k ≡ d + k + 1 = omega arith in rw e (more (d + k) (omega arith) (omega arith) (climb P d k (λ f a b. more f a (omega arith)) x))

-- ---- the rows of the blocks before a piece

rows_before : {t : Tables} (qs : List Piece) → Mapped t qs → (d : ℕ) → d ≤ length qs → (b : ℕ) → b < first_of qs d
    → row_in t.numbers b + length (get_or (blocks qs) b no_block).rows ≤ row_places * d
rows_before qs h zero l b m = absurd (omega (arith, first_none qs))
rows_before {t = t} qs h (suc d) l b m = ⊎_elim (λ (a : b < first_of qs d). omega (arith, rows_before qs h d (omega arith) b a)) here (split_at b (first_of qs d))
  where
    here : first_of qs d ≤ b → row_in t.numbers b + length (get_or (blocks qs) b no_block).rows ≤ row_places * suc d
    here a =
        let q = get_or qs d no_piece in
        let g = h.each d (omega arith) in
        let j : ℕ = b - first_of qs d in
        let e : first_of qs d + j ≡ b = omega arith in
        let n : j < 2 * pred (size_of q) = omega (arith, h.first_next d (omega arith)) in
        let w = get_or (windows_of (size_of q)) j no_window in
        let inside : Inside (size_of q) w = every_at (Inside (size_of q)) (windows_of (size_of q)) (windows_inside (size_of q) g.small) j no_window (omega (arith, length_windows_of (size_of q) g.small)) in
        let rows : length (get_or (blocks qs) b no_block).rows ≡ w.rows = rw e at (ap (λ (k : Block). length k.rows) (g.blocks_are j n) ∙ block_rows (suc d) q w) in
        let at : row_in t.numbers b ≡ row_places * d + w.row0 = rw e at (g.rows_at j n) in
        omega (arith, inside.rows_in, g.small)

-- ---- one piece

module _ {a : Arrays} {v l : ℕ} {qs : List Piece} {ss : List BlockState} (given : SettleGiven a v l qs ss) where
  abbrev t : Tables
  t = a.heaps.tables

  abbrev numbers : List ℕ
  numbers = a.heaps.tables.numbers

  abbrev mapped : Mapped t qs
  mapped = given.mapped

  pieces_begun : PiecesDone (Running a (blocks qs)) qs v l ss 0 0
  pieces_begun = record { states = ss; kept = given.running; partly = rw first_none (partly_begun v l ss) }

  pieces_all : (holds : List BlockState → Type 0) (d n : ℕ) → d ≡ length qs → PiecesDone holds qs v l ss d n → VertexActivated holds v l ss n
  pieces_all holds d n e x =
      let all : length ss ≤ first_of qs d = rw e (omega (arith, first_all qs, count_is given.running.held)) in
      let s : x.states ≡ map (activate_vertex v l) ss = partly_all v l ss (first_of qs d) x.states n x.partly all in
      record { kept = rw (← s) x.kept; counted = rw (← s) x.partly.counted }

  module _ (d : ℕ) (less : d < length qs) where
    abbrev q : Piece
    q = get_or qs d no_piece

    piece : MappedPiece t (blocks qs) (first_of qs d) d q
    piece = mapped.each d less

    -- one piece more
    more : (holds : List BlockState → Type 0) (n : ℕ) (holds' : List BlockState → Type 0) (m : ℕ) (x : PiecesDone holds qs v l ss d n) (y : List BlockState)
        → holds' y → PieceDone (first_of qs d) (size_of q) v l x.states y m → PiecesDone holds' qs v l ss (d + 1) (n + m)
    more holds n holds' m x y k done =
        let e : d + 1 ≡ suc d = omega arith in
        rw (e) (record { states = y; kept = k; partly = rw (mapped.first_next d less) (partly_more v l ss (first_of qs d) (size_of q) x.states y n m x.partly done) })

    module _ (row_labels words tree : List ℕ) (n : ℕ) (x : PiecesDone (Running (changed a row_labels words tree) (blocks qs)) qs v l ss d n) where
      abbrev now : Arrays
      now = changed a row_labels words tree

      are : (j : ℕ) → j < 2 * pred (size_of q) → (block_in (first_of qs d) x.states j).block.rows ≡ (block_of 0 q (get_or (windows_of (size_of q)) j no_window)).rows
      unfolding block_of
      are j r = ap (λ (b : Block). b.rows) (sym (block_same x.kept.held (first_of qs d + j)) ∙ piece.blocks_are j r)

      piece_missing : ((i : ℕ) → i < size_of q → get_or q.vertices i 0 ≢ v) → PiecesDone (Running now (blocks qs)) qs v l ss (d + 1) n
      piece_missing missing =
          let e : n + 0 ≡ n = omega arith in
          rw e at (more (Running now (blocks qs)) n (Running now (blocks qs)) 0 x x.states x.kept
          (piece_absent q (first_of qs d) v l x.states piece.small are missing))

      module _ (i : ℕ) (there : (i < size_of q) × (get_or q.vertices i 0 ≡ v)) where
        abbrev spot : Spot
        spot = record { piece = q; base = row_places * d; vertex = v; label = l }

        -- v is not yet activated in the blocks from this piece on, and those before it do not have the place
        new : (b : ℕ) → b < length (blocks qs) → row_in numbers b ≤ row_places * d + i → row_places * d + i < row_in numbers b + row_count_in numbers b
            → is_activated (row_places * d + i - row_in numbers b) (get_or x.states b no_block_state).trace.model.activated ≡ false
        new b r lo hi = ⊎_elim
            (λ (y : b < first_of qs d). absurd (omega (arith, rows_before qs mapped d (omega arith) b y, tall)))
            (λ (y : first_of qs d ≤ b). rw (x.partly.still b y) (fresh y)) (split_at b (first_of qs d))
          where
            k : ℕ
            k = row_places * d + i - row_in numbers b

            rows : List ℕ
            rows = (get_or (blocks qs) b no_block).rows

            tall : row_count_in numbers b ≡ length (get_or (blocks qs) b no_block).rows
            tall = (x.kept.held.parted.lies b r).tall

            same : get_or (blocks qs) b no_block ≡ (get_or ss b no_block_state).block
            same = block_same given.running.held b

            fresh : first_of qs d ≤ b → is_activated k (get_or ss b no_block_state).trace.model.activated ≡ false
            fresh y =
                let e : row_in numbers b + k ≡ row_places * d + i = omega arith in
                let in_rows : k < length rows = omega (arith, tall) in
                let is : get_or rows k 0 ≡ v = mapped.rows_are b k r in_rows ∙ rw e (sym (piece.vertex_is i there.0) ∙ there.1) in
                let row : place_of v 0 rows ≡ some k = rw is at (place_of_lem rows (mapped.rows_differ b r) k in_rows) in
                let w = every_at (Welcome v l) ss given.welcome b no_block_state (omega (arith, count_is given.running.held)) in
                (accepted_is _ _ k l (w k (rw (← same) row))).row_new

        relabelled_there : Running (changed a (set row_labels (row_places * d + i) l) words tree) (blocks qs) x.states
        relabelled_there = relabelled x.kept (row_places * d + i) l new

        ready_there : SpotReady t (set row_labels (row_places * d + i) l) (first_of qs d) (size_of q) i x.states spot
        ready_there = record {
          stands = record {
            small = piece.small;
            apart = piece.apart;
            inside = there.0;
            here = there.1;
            fits = omega (arith, piece.blocks_in, count_is x.kept.held);
            blocks_are = are;
          };
          size_is = refl;
          rows_at = piece.rows_at;
          label_is = get_or-set_same row_labels (row_places * d + i) l 0 (omega (arith, x.kept.held.labels_are, there.0, piece.small, mapped.few));
          welcome = λ j r. rw (x.partly.still (first_of qs d + j) (omega arith))
              (every_at (Welcome v l) ss given.welcome (first_of qs d + j) no_block_state (omega (arith, piece.blocks_in, count_is given.running.held)));
        }

        -- the same for the place's number of all pieces
        stored : (y : ℕ) → row_places * d + i ≡ y → Running (changed a (set row_labels y l) words tree) (blocks qs) x.states
        stored y e = rw e at relabelled_there

        ready : (y : ℕ) → row_places * d + i ≡ y → SpotReady t (set row_labels y l) (first_of qs d) (size_of q) i x.states spot
        ready y e = rw e at ready_there

  -- ---- the pieces up to the next place

  module _ (row_labels words tree : List ℕ) (n : ℕ) where
    skip : (d k : ℕ) → d + k ≤ length qs
        → ((e : ℕ) → d ≤ e → e < d + k → (i : ℕ) → i < size_of (get_or qs e no_piece) → get_or (get_or qs e no_piece).vertices i 0 ≢ v)
        → PiecesDone (Running (changed a row_labels words tree) (blocks qs)) qs v l ss d n
        → PiecesDone (Running (changed a row_labels words tree) (blocks qs)) qs v l ss (d + k) n
    skip d k r none x =
        climb (λ (e : ℕ). PiecesDone (Running (changed a row_labels words tree) (blocks qs)) qs v l ss e n) d k
        (λ e c b y. piece_missing e (omega arith) row_labels words tree n y (none e c b)) x

    standing : (e i : ℕ) → e < length qs → i < size_of (get_or qs e no_piece) → get_or (get_or qs e no_piece).vertices i 0 ≡ v → StandsIn qs v (row_places * e + i)
    standing e i r s h =
        let small = (mapped.each e r).small in
        let f : (row_places * e + i) / row_places ≡ e = omega arith in
        let g : row_places * e + i - row_places * e ≡ i = omega arith in
        record { piece_in_lem = rw f r; place_in = rw (f, g) s; vertex = rw (f, g) h }

    reach : (d link : ℕ) → d ≤ length qs → NextIn qs v d link → PiecesDone (Running (changed a row_labels words tree) (blocks qs)) qs v l ss d n
        → PiecesDone (Running (changed a row_labels words tree) (blocks qs)) qs v l ss (done_at (length qs) link) n
    unfolding done_at
    reach d zero r next x =
        let e : d + (length qs - d) ≡ length qs = omega arith in
        rw e at (skip d (length qs - d) (omega arith)
        (λ f a b i s h. let small = (mapped.each f (omega arith)).small in omega (arith, next.least (row_places * f + i) (omega arith) (standing f i (omega arith) s h))) x)
    reach d (suc y) r next x =
        let m = next.there y refl in
        let inside = m.1.piece_in_lem in
        let e : d + (y / row_places - d) ≡ y / row_places = omega (arith, m.0) in
        rw e at (skip d (y / row_places - d) (omega (arith, m.0))
        (λ f a b i s h. let small = (mapped.each f (omega (arith, m.0))).small in omega (arith, m.0, next.least (row_places * f + i) (omega arith) (standing f i (omega (arith, m.0)) s h))) x)

-- ---- the function's loop

-- a is how the arrays were; the pieces before that of the place that the word names are done, whatever they held
pub record SettleKeeps (a : Arrays) (row_labels words tree : List ℕ) (v l link inserted : ℕ) : Type 0 where
  pub count : inserted ≤ place_inserts * done_at max_pieces link
  pub stands : (qs : List Piece) (ss : List BlockState) → SettleGiven a v l qs ss → (x : ℕ) → link ≡ suc x → StandsIn qs v x
  pub before : (qs : List Piece) (ss : List BlockState) → SettleGiven a v l qs ss
      → PiecesDone (Running (changed a row_labels words tree) (blocks qs)) qs v l ss (done_at (length qs) link) inserted

module _ {a : Arrays} {v l : ℕ} (needs : SettleNeeds a v l) where
  abbrev numbers' : List ℕ
  numbers' = a.heaps.tables.numbers

  abbrev map_given : Mapped a.heaps.tables needs.pieces
  map_given = needs.given.mapped

  pub settle_begun : SettleKeeps a a.heaps.row_labels a.heaps.words a.tree v l (start_in numbers' v) 0
  settle_begun = record {
    count = omega arith;
    stands = λ qs ss g x e. ((g.mapped.starts v g.low g.high).there x e).1;
    before = λ qs ss g. reach g a.heaps.row_labels a.heaps.words a.tree 0 0 (start_in numbers' v) (omega arith) (g.mapped.starts v g.low g.high) (pieces_begun g);
  }

  pub vertex_in_lem : (1 ≤ v) × (v ≤ max_vertices)
  vertex_in_lem = (needs.given.low, needs.given.high)

  pub tables_long : length numbers' ≡ table_count
  tables_long = map_given.numbers_in_lem

  module _ {row_labels words tree : List ℕ} {link n : ℕ} (keeps : SettleKeeps a row_labels words tree v l link n) where
    pub settle_long : (length row_labels ≡ length a.heaps.row_labels) × (length words ≡ length a.heaps.words) × (length tree ≡ length a.tree)
    settle_long =
        let x = (keeps.before needs.pieces needs.states needs.given).kept in
        let y = needs.given.running in
        (x.held.labels_are ∙ sym y.held.labels_are, x.held.words_are ∙ sym y.held.words_are, x.played.size ∙ sym y.played.size)

    pub settle_done : link ≡ 0 → SettleLeaves a (changed a row_labels words tree) v l n
    settle_done end qs ss g = pieces_all g (Running (changed a row_labels words tree) (blocks qs)) (done_at (length qs) link) n (all_done (length qs) link end) (keeps.before qs ss g)

    pub settle_few : link ≡ 0 → n ≤ vertex_inserts
    settle_few end = omega (arith, keeps.count, all_done max_pieces link end)

    module _ (some : 0 < link) where
      -- the place, its piece, and the place in the piece
      abbrev y : ℕ
      y = link - 1

      abbrev d : ℕ
      d = (link - 1) / row_places

      abbrev i : ℕ
      i = link - 1 - row_places * ((link - 1) / row_places)

      whole : row_places * d + i ≡ y
      whole = omega arith

      module _ {qs : List Piece} {ss : List BlockState} (g : SettleGiven a v l qs ss) where
        here : StandsIn qs v y
        here = keeps.stands qs ss g (link - 1) (omega arith)

        there : (i < size_of (get_or qs d no_piece)) × (get_or (get_or qs d no_piece).vertices i 0 ≡ v)
        there = (here.place_in, here.vertex)

        was : PiecesDone (Running (changed a row_labels words tree) (blocks qs)) qs v l ss d n
        was = rw (done_before (length qs) link some) at (keeps.before qs ss g)

      pub settle_count : n ≤ place_inserts * d
      settle_count = rw (done_before max_pieces link some) at keeps.count

      abbrev here_is : MappedPiece a.heaps.tables (blocks needs.pieces) (first_of needs.pieces d) d (get_or needs.pieces d no_piece)
      here_is = map_given.each d (here needs.given).piece_in_lem

      pub place_in : (d < max_pieces) × (size_in numbers' d ≤ max_size) × (i < size_in numbers' d) × (y < length row_labels)
      place_in =
          let r = here needs.given in (
            omega (arith, r.piece_in_lem, map_given.few),
            omega (arith, here_is.size_is, here_is.small),
            omega (arith, here_is.size_is, r.place_in),
            omega (arith, (was needs.given).kept.held.labels_are, r.piece_in_lem, map_given.few),
          )

      abbrev asked : Arrays
      asked = changed a (set row_labels (link - 1) l) words tree

      pub place_needs : ActivatePlaceNeeds asked (first_in numbers' d) (size_in numbers' d) i
      place_needs =
          let g = needs.given in
          let r = (here g).piece_in_lem in
          rw (map_given.firsts_are d r, here_is.size_is) (record {
            blocks = blocks needs.pieces;
            states = (was g).states;
            spot = _;
            running = stored g d r row_labels words tree n (was g) i (there g) (link - 1) whole;
            ready = ready g d r row_labels words tree n (was g) i (there g) (link - 1) whole;
          })

      next : (qs : List Piece) (ss : List BlockState) → SettleGiven a v l qs ss → NextIn qs v (d + 1) (next_in numbers' (link - 1))
      next qs ss g = g.mapped.nexts v (link - 1) g.low g.high (here g)

      further : d + 1 ≤ done_at max_pieces (next_in numbers' (link - 1))
      further = done_further max_pieces (d + 1) (next_in numbers' (link - 1)) (next needs.pieces needs.states needs.given) (omega (arith, place_in.0))

      pub settle_less : max_pieces - done_at max_pieces (next_in numbers' (link - 1)) < max_pieces - done_at max_pieces link
      settle_less = rw (done_before max_pieces link some) (omega (arith, further, place_in.0))

      pub settle_more : (words' tree' : List ℕ) (m : ℕ) → m ≤ place_inserts
          → ActivatePlaceLeaves asked (changed a (set row_labels (link - 1) l) words' tree') (first_in numbers' d) (size_in numbers' d) i m
          → SettleKeeps a (set row_labels (link - 1) l) words' tree' v l (next_in numbers' (link - 1)) (n + m)
      settle_more words' tree' m few c = record {
        count = omega (arith, settle_count, further);
        stands = λ qs ss g x e. ((next qs ss g).there x e).1;
        before = λ qs ss g. reach g (set row_labels (link - 1) l) words' tree' (n + m) (d + 1) (next_in numbers' (link - 1)) (omega (arith, (here g).piece_in_lem)) (next qs ss g) (go qs ss g);
      }
        where
          go : (qs : List Piece) (ss : List BlockState) → SettleGiven a v l qs ss
              → PiecesDone (Running (changed a (set row_labels (link - 1) l) words' tree') (blocks qs)) qs v l ss (d + 1) (n + m)
          go qs ss g =
              let r : d < length qs = (here g).piece_in_lem in
              let b : ActivatePlaceLeaves asked (changed a (set row_labels (link - 1) l) words' tree') (first_of qs d) (size_of (get_or qs d no_piece)) i m
              = rw (g.mapped.firsts_are d r, (g.mapped.each d r).size_is) at c in
              let z = b (blocks qs) (was g).states (record { piece = get_or qs d no_piece; base = row_places * d; vertex = v; label = l })
              (stored g d r row_labels words tree n (was g) i (there g) (link - 1) whole)
              (ready g d r row_labels words tree n (was g) i (there g) (link - 1) whole) in
              more g d r (Running (changed a row_labels words tree) (blocks qs)) n
              (Running (changed a (set row_labels (link - 1) l) words' tree') (blocks qs)) m (was g) z.states z.kept z.done
