-- Document 01, "Causes that turn an input away", and document 02, request 4: the causes 4 to 8 and 12 of a network and a question, each 0 or its number.
--   judge_bounds judge_size judge_vertices judge_row judge_blocks   one cause each of a network
--   judge_source judge_target                                    of a question
--   judge_piece                                                 a piece
--   piece_at pieces_of judge_network                              a network in lent buffers
-- The text reader and the labelling judge by these same definitions.
use Rattle.std.specs.Prelude.{cond, ◌&&◌, List, [], ◌∷◌, map, ℕ, zero, suc, ◌+◌, ◌*◌, eqb, get_or, take, drop}
use Rattle.definitions.specs.Limits.{max_vertices, max_pieces, max_size, row_places, table_places}
use Rattle.definitions.specs.Lists.{every, different, within, up_from, first_cause}
use Rattle.definitions.specs.Metres.{is_length}
use Rattle.definitions.specs.Network.{Piece}
use Rattle.definitions.specs.Blocks.{blocks_of, passes}

-- n or p out of bounds
unfoldable pub judge_bounds : ℕ → ℕ → ℕ
judge_bounds n p = cond (within max_vertices n && within max_pieces p) 0 4

-- m out of bounds
unfoldable pub judge_size : ℕ → ℕ
judge_size m = cond (within max_size m) 0 4

-- a vertex that the network does not have, or one that stands twice
unfoldable pub judge_vertices : ℕ → List ℕ → ℕ
judge_vertices n vertices = cond (every (within n) vertices && different vertices) 0 5

-- row i with a length that no table may hold, or with another one than 0 on the diagonal, no path among these
unfoldable pub judge_row : ℕ → List ℕ → ℕ
judge_row i row = cond (every is_length row && eqb (get_or row i 0) 0) 0 6

-- rows in order, the first of them row i
unfoldable pub judge_rows : ℕ → List (List ℕ) → ℕ
judge_rows i [] = 0
judge_rows i (row ∷ rows) = first_cause (judge_row i row ∷ judge_rows (suc i) rows ∷ [])

-- a block that is not Monge; the check does not look at the number of the piece
unfoldable pub judge_blocks : Piece → ℕ
judge_blocks q = cond (every passes (blocks_of 0 q)) 0 7

-- a source that the network does not have
unfoldable pub judge_source : ℕ → ℕ → ℕ
judge_source n source = cond (within n source) 0 8

-- a target that the network does not have (02, request 4)
unfoldable pub judge_target : ℕ → ℕ → ℕ
judge_target n target = cond (within n target) 0 12

-- a piece whose size is given as m, in a network of n vertices: its blocks are judged behind its last row
unfoldable pub judge_piece : ℕ → ℕ → Piece → ℕ
judge_piece n m q = first_cause (judge_size m ∷ judge_vertices n q.vertices ∷ judge_rows 0 q.rows ∷ judge_blocks q ∷ [])

-- ---- a lent network

-- piece d, from 0, of the lent buffers: the first m places of each of its parts, and nothing behind them
unfoldable pub piece_at : List ℕ → List ℕ → List ℕ → ℕ → Piece
piece_at sizes vertices lengths d =
    let m = get_or sizes d 0 in
    record {
      vertices = take m (drop (row_places * d) vertices);
      rows = map (λ i. take m (drop (table_places * d + row_places * i) lengths)) (up_from 0 m);
    }

-- the p pieces
unfoldable pub pieces_of : ℕ → List ℕ → List ℕ → List ℕ → List Piece
pieces_of p sizes vertices lengths = map (piece_at sizes vertices lengths) (up_from 0 p)

-- the k pieces from d on
unfoldable pub judge_from : ℕ → List ℕ → List ℕ → List ℕ → ℕ → ℕ → ℕ
judge_from n sizes vertices lengths d zero = 0
judge_from n sizes vertices lengths d (suc k) =
    first_cause (judge_piece n (get_or sizes d 0) (piece_at sizes vertices lengths d) ∷ judge_from n sizes vertices lengths (suc d) k ∷ [])

-- a lent network, judged in the order in which a text is
unfoldable pub judge_network : ℕ → ℕ → List ℕ → List ℕ → List ℕ → ℕ
judge_network n p sizes vertices lengths = first_cause (judge_bounds n p ∷ judge_from n sizes vertices lengths 0 p ∷ [])
