-- The labelling of every accepted network: demand 2, the count and the routes, each in full, with its argument.
--   calls_done                    no call of the labelling is refused
--   it_ends no_interval_left      in the end no block has an interval
--   labels_limited held_limited   a label is at most `max_label`
--   labels_are_distances above_n  demand 2: each place of the label buffer
--   reached_counts                the vertices reached
--   few_extractions insertions_most few_insertions   the counts, the last where every entry is a number
--   counts_held labels_held written_digits   a listing writes them by their digits
--   routes route_to_source route_unreached routed route_is_walk   the route to a vertex: document 02, request 4
--   every_block_a_trace           each block's model is that of a list of calls
--   lent_network lent_route depot_accepted gapped_accepted   a network in lent buffers; the depot example
-- `Accepted n pieces source` says that no cause turns away the network of n vertices with these pieces, nor the source
-- (judge_bounds, judge_piece and judge_source, the definitions by which the code judges, are 0).
use Rattle.std.specs.Prelude.{◌≡◌, refl, not, List, [], ◌∷◌, map, ◌≢◌, ℕ, suc, ◌+◌, ◌*◌, ◌≤◌, ◌<◌, eqb, get_or, length}
use Rattle.std.proofs.Common.{arith}
use Rattle.std.proofs.Math.Option.{none, some}
use Rattle.definitions.specs.Limits.{max_label, label_places, column_bytes, unreached, no_path}
use Rattle.definitions.specs.Metres.{is_length, metres_of, plus, at_most}
use Rattle.definitions.specs.Lists.{count, total, all, every, mem, different, up_from, down_to, within, first_cause, Every}
use Rattle.definitions.specs.Network.{Piece, entry, size_of, Open, Arc, Walk, Distance, RouteArc, Route, Routed}
use Rattle.definitions.specs.Blocks.{splits, splits_of, windows, windows_of, rows_of, columns_of, block_of, blocks_of, blocks, passes, weight}
use Rattle.definitions.specs.Monge.{corners, is_monge, closed}
use Rattle.definitions.specs.Best.{nobody}
use Rattle.definitions.specs.Model.{intervals}
use Rattle.definitions.specs.Labelling.{label_of, chosen, steps, start, labelling, reached, extractions, insertions, held_label, labels, route_to}
use Rattle.definitions.specs.Judgement.{judge_bounds, judge_size, judge_vertices, judge_row, judge_rows, judge_blocks, judge_source, judge_piece, pieces_of}
use Rattle.definitions.specs.Fields.{max_column, decimal, right_justified, nine_columns}
use Rattle.definitions.specs.Entries.{judge_labelling, route_network}
use Rattle.definitions.specs.PlainPromises.{PlainRoute}
use Rattle.labelling_laws.specs.Acceptance.{Accepted}
use Rattle.labelling_laws.proofs.Acceptance.{suits}
use Rattle.labelling_laws.proofs.Arcs.{open_none, all_inserted}
use Rattle.labelling_laws.specs.OneBlock.{inserted_most}
use Rattle.labelling_laws.proofs.Ends as ends
use Rattle.labelling_laws.proofs.LoopLaws.{chosen_none}
use Rattle.labelling_laws.specs.BlockTraces.{Made}
use Rattle.labelling_laws.proofs.BlockTraces.{made}
use Rattle.labelling_laws.proofs.Routes.{route_walk}
use Rattle.labelling_laws.proofs.PieceBlocks as network
use Rattle.labelling_laws.proofs.LentNetworks as lent
use Rattle.labelling_laws.proofs.ListedNumbers as listed

module _ (n : ℕ) (pieces : List Piece) (source : ℕ) (ok : Accepted n pieces source) where
  -- After any number of steps every answer of every block has code 0: no activation was refused, and no extraction found nothing.
  -- A vertex is activated once, when it is settled, at a label that is the last sum handed out: so its row is new in each block and
  -- the label is at least the floor. Each vertex settled before adds at most `max_length` to it, so it is at most `max_label`.
  -- An extraction is made only from a block that offers a column.
  pub calls_done : (m : ℕ) → Every (λ s. Every (λ a. a.code ≡ 0) s.trace.answers) (steps m (start (blocks pieces) source)).blocks
  calls_done = ends.calls_done (blocks pieces) n source (network.setting n pieces source ok)

  -- As many steps as there are columns are enough: each step extracts a column of some block, and a column is extracted once.
  pub it_ends : chosen (labelling (blocks pieces) source) ≡ nobody
  it_ends = ends.ends (blocks pieces) n source (network.setting n pieces source ok)

  -- At its end no block has an interval: nothing to choose means that every list of intervals is empty.
  pub no_interval_left : Every (λ s. intervals s.block.lengths (length s.block.cols) s.trace.model ≡ []) (labelling (blocks pieces) source).blocks
  no_interval_left = chosen_none (labelling (blocks pieces) source) it_ends

  -- The k-th vertex settled has a label of at most k - 1 times `max_length`, and at most n vertices are settled.
  pub labels_limited : (v l : ℕ) → label_of v (labelling (blocks pieces) source).settled ≡ some l → l ≤ max_label
  labels_limited = network.labels_limited n pieces source ok

  -- the same of the label buffer: what is not 4,294,967,295 is a label
  pub held_limited : (i : ℕ) → i < label_places → get_or (labels (labelling (blocks pieces) source)) i 0 ≢ unreached → get_or (labels (labelling (blocks pieces) source)) i 0 ≤ max_label
  held_limited = network.held_limited n pieces source ok

  -- Demand 2: place i holds the length of a shortest walk from the source to vertex i + 1, or 4,294,967,295 and there is no walk.
  -- The arcs of a walk are numbers of metres, no path is none. A label is the length of a walk, that to the parent and one arc more: a parent has a path to
  -- its column. In the end every column to which an activated row of its block has a path is extracted, and the vertex of an extracted column has a label
  -- of at most the sum through any such row, since sums are handed out in rising order. Each arc is in one block; so along any walk from the source every
  -- vertex is settled, with a label of at most the length so far.
  pub labels_are_distances : (i : ℕ) → i < label_places → Distance pieces source (suc i) (get_or (labels (labelling (blocks pieces) source)) i 0)
  labels_are_distances = network.label_distance n pieces source ok

  -- Only vertices of pieces are settled, and those are at most n.
  pub above_n : (i : ℕ) → n ≤ i → i < label_places → get_or (labels (labelling (blocks pieces) source)) i 0 ≡ unreached
  above_n = network.above_n n pieces source ok

  -- The vertices reached are as many as places of the buffer that hold a label. Each vertex is settled once.
  pub reached_counts : reached (labelling (blocks pieces) source) ≡ count (λ i. not (eqb (get_or (labels (labelling (blocks pieces) source)) i 0) unreached)) label_places
  reached_counts = network.reached_count n pieces source ok

  -- `weight` is the sum over the pieces of m·⌈log₂ m⌉. A column is extracted once, and the blocks of a piece have at most that
  -- many columns.
  pub few_extractions : extractions (labelling (blocks pieces) source) ≤ weight pieces
  few_extractions = network.extractions_weight n pieces source ok

  -- The count, of every network: an activation inserts at most three intervals more than its block has closed columns and an extraction at most two; each
  -- row is activated and each column extracted at most once.
  pub insertions_most : insertions (labelling (blocks pieces) source)
      ≤ total (map (λ b. (3 + closed b.lengths (length b.rows) (length b.cols)) * length b.rows + 2 * length b.cols) (blocks pieces))
  unfolding inserted_most
  insertions_most = network.insertions_most n pieces source ok

  -- Where no table shows that there is no path (document 02, request 7), no block has a closed column; and all blocks of a piece have at most m·⌈log₂ m⌉
  -- rows and as many columns. The proof cites the parts and not `insertions_weight`, so that each of the two is refused by itself where its bound is too low.
  pub few_insertions : Open pieces → insertions (labelling (blocks pieces) source) ≤ 5 * weight pieces
  few_insertions o =
      let su = suits n pieces ok.pieces_pass in
      omega (arith, network.insertions_most n pieces source ok, all_inserted n 0 pieces su (open_none n pieces su o))

  -- Nine columns hold the four numbers of a listing's first line, and every label.
  pub counts_held : Every (λ x. x ≤ max_column)
      (source ∷ reached (labelling (blocks pieces) source) ∷ extractions (labelling (blocks pieces) source) ∷ insertions (labelling (blocks pieces) source) ∷ [])
  counts_held = listed.counts_held n pieces source ok

  pub labels_held : (v l : ℕ) → label_of v (labelling (blocks pieces) source).settled ≡ some l → l ≤ max_column
  labels_held = listed.labels_held n pieces source ok

  -- To each vertex reached there is a route: its arcs join up from the source on, each is an arc of the piece of its number, no vertex stands
  -- twice, the lengths add up to the label, and there are at most 255. The arc that a vertex was settled by is that of its column's
  -- parent: it starts from a vertex settled before, and its length is the difference of their labels. So along the arcs back the order of
  -- settling falls; they end at the source, which alone was settled by no arc, and as many as there are settled vertices are enough.
  pub routes : (v l : ℕ) → label_of v (labelling (blocks pieces) source).settled ≡ some l → Route pieces source v l (route_to (labelling (blocks pieces) source) v)
  routes = network.route n pieces source ok

  -- No arc leads to the source, and none to a vertex that is not settled.
  pub route_to_source : route_to (labelling (blocks pieces) source) source ≡ []
  route_to_source = network.route_source n pieces source ok

  pub route_unreached : (v : ℕ) → label_of v (labelling (blocks pieces) source).settled ≡ none → route_to (labelling (blocks pieces) source) v ≡ []
  route_unreached = network.route_unreached n pieces source ok

  -- The same of every vertex, with its label as the label buffer holds it: the label is the distance, so the route is a shortest one.
  pub routed : (v : ℕ) → 1 ≤ v → v ≤ n → Routed pieces source v (held_label (label_of v (labelling (blocks pieces) source).settled)) (route_to (labelling (blocks pieces) source) v)
  routed = network.routed n pieces source ok

-- A number that nine columns hold is written by its digits: in a listing `-` stands for the unreached and for nothing else.
pub written_digits : (x : ℕ) → x ≤ max_column → nine_columns x ≡ right_justified column_bytes (decimal x)
written_digits = listed.written_digits

-- A route is a walk of its label's length, of those that a distance is the least of.
pub route_is_walk : (pieces : List Piece) (s t label : ℕ) (arcs : List RouteArc) → Route pieces s t label arcs → Walk (Arc pieces) s t label
route_is_walk = route_walk

-- Demand 3 reaches the labelling: the model of each block is what some list of calls leaves of a fresh one, after any number of steps.
pub every_block_a_trace : (pieces : List Piece) (source m : ℕ) → Every Made (steps m (start (blocks pieces) source)).blocks
every_block_a_trace pieces source m = made (blocks pieces) source m

-- What the labelling judges in its lent buffers is an accepted network: the theorems hold of every call that is not refused.
pub lent_network : (n p : ℕ) (sizes vertices lengths : List ℕ) (source : ℕ) (buffer : List ℕ) → judge_labelling n p sizes vertices lengths source buffer ≡ 0
    → Accepted n (pieces_of p sizes vertices lengths) source
lent_network = lent.lent_accepted

-- What a route that is not refused returns and leaves, in plain terms: its buffers hold an accepted network, and its target is one of the vertices.
pub lent_route : (n p : ℕ) (sizes vertices lengths : List ℕ) (source target : ℕ) (buffer : List ℕ) → (route_network n p sizes vertices lengths source target buffer).answer.number ≡ 0
    → PlainRoute p sizes vertices lengths source target (route_network n p sizes vertices lengths source target buffer).answer (route_network n p sizes vertices lengths source target buffer).arcs
lent_route = lent.lent_route

-- The depot example is accepted, so that the theorems speak of something.
depot : List Piece
depot = record {
  vertices = 1 ∷ 2 ∷ 3 ∷ 4 ∷ [];
  rows = (0 ∷ 3 ∷ 7 ∷ 5 ∷ []) ∷ (3 ∷ 0 ∷ 4 ∷ 6 ∷ []) ∷ (7 ∷ 4 ∷ 0 ∷ 2 ∷ []) ∷ (5 ∷ 6 ∷ 2 ∷ 0 ∷ []) ∷ [];
} ∷ []

depot_accepted : Accepted 5 depot 1
unfolding depot all every mem different up_from down_to within first_cause splits splits_of windows windows_of rows_of columns_of is_length metres_of plus at_most corners is_monge entry size_of block_of blocks_of passes
    judge_bounds judge_size judge_vertices judge_row judge_rows judge_blocks judge_source judge_piece
depot_accepted = record { bounds = refl; pieces_pass = (refl, tt); source_passes = refl }

-- So is the same with no path between the vertices 1 and 3.
gapped : List Piece
gapped = record {
  vertices = 1 ∷ 2 ∷ 3 ∷ 4 ∷ [];
  rows = (0 ∷ 3 ∷ no_path ∷ 5 ∷ []) ∷ (3 ∷ 0 ∷ 4 ∷ 6 ∷ []) ∷ (no_path ∷ 4 ∷ 0 ∷ 2 ∷ []) ∷ (5 ∷ 6 ∷ 2 ∷ 0 ∷ []) ∷ [];
} ∷ []

gapped_accepted : Accepted 5 gapped 1
unfolding gapped all every mem different up_from down_to within first_cause splits splits_of windows windows_of rows_of columns_of is_length metres_of plus at_most corners is_monge entry size_of block_of blocks_of passes
    judge_bounds judge_size judge_vertices judge_row judge_rows judge_blocks judge_source judge_piece
gapped_accepted = record { bounds = refl; pieces_pass = (refl, tt); source_passes = refl }
