-- The pieces of a text, read one after the other into the lent buffers.
--   Shaped              a piece as it is read: m vertices, m rows of m lengths
--   Held held_none      the buffers hold the pieces read so far
--   Sized size_facts    what a size says
--   Room Free free_of   room for one piece more
--   TableRead table_judged   a table's rows with the check of its blocks
--   SizedLeft sized-..   what a piece leaves behind its size
--   PieceLeft ReadPieceLeaves piece-..   what one piece leaves
--   PiecesGoing pieces_begun pieces_turn pieces_broken   the loop over the pieces
use Rattle.std.specs.Prelude.{◌≡◌, refl, ⊤, Result, Ok, Err, take, drop, set, replicate}
use Rattle.std.proofs.Math.Path.{sym, ap}
use Rattle.std.proofs.Common.{◌∙◌, mul-le-mul, arith, drop_at, le-leb}
use mathlib.Core.List.{List, [], ◌∷◌, ◌++◌, map, map-append, flat_map, append-nil}
use Prim.Native.Nat.{ℕ, zero, suc, ◌+◌, ◌-◌, ◌*◌, ◌≤◌, ◌<◌}
use Rattle.std.proofs.Math.ListN.{length, length-append, length-map}
use Rattle.basics.specs.Buffers.{flat_map_snoc, put, put_padded, set_padded}
use Rattle.basics.specs.ListLaws.{every_snoc, length_padded, total_append}
use Rattle.definitions.specs.declared.Cause.{Cause}
use Rattle.definitions.specs.Causes.{number_of, verdict}
use Rattle.definitions.specs.Limits.{max_size, size_places, vertex_places, length_places, row_places, table_places}
use Rattle.definitions.specs.Lists.{padded, total, within, Every}
use Rattle.definitions.specs.Network.{Piece, size_of}
use Rattle.definitions.specs.Judgement.{judge_size, judge_vertices, judge_blocks}
use Rattle.definitions.specs.Fields.{field_bytes, field_of, field_at}
use Rattle.definitions.specs.Reading.{refused, value, require, read_field, read_line, line_bytes, read_rows, read_piece, piece_bytes, read_pieces}
use Rattle.definitions.specs.Text.{sizes_of, vertices_of, table_of, lengths_of}
use Rattle.definitions.proofs.Laws.Members.{every_imp}
use Rattle.definitions.proofs.Laws.CauseLaws.{size_in_lem}
use Rattle.definitions.proofs.Laws.ReadLaws.{value_same, bind_value, require_value}
use Rattle.judgements.specs.LentPieces.{judge_table}
use Rattle.judgements.specs.PieceJudgement.{table_blocks}
use Rattle.monge.specs.Matrix.{rows_in}
use Rattle.text.specs.Outcomes.{Came, RowsLeft}
use Rattle.text.specs.ReadSteps.{after, after_after, after_none, field_inside, field_in, judged, piece_of, read_sized, piece_go, table_stop, table_go, pieces_go, pieces_stop}
use Rattle.text.specs.Padding.{padded_inner}
use Rattle.text.specs.Returns.{judged_tail}
use Rattle.text.specs.RowReading.{rows_back, line_end_in}

pub record Shaped (q : Piece) : Type 0 where
  pub low : 1 ≤ size_of q
  pub high : size_of q ≤ row_places
  pub tall : length q.rows ≡ size_of q
  pub wide : Every (λ row. length row ≡ size_of q) q.rows

-- ---- how long the parts are

flat_length : {A : Type 0} (f : A → List ℕ) (k : ℕ) (xs : List A) → Every (λ x. length (f x) ≡ k) xs → length (flat_map f xs) ≡ k * length xs
unfolding flat_map
flat_length f k [] h = omega arith
flat_length f k (x ∷ xs) h = length-append (f x) (flat_map f xs) ∙ omega (arith, h.0, flat_length f k xs h.1)

pub vertices_long : (qs : List Piece) → Every Shaped qs → length (flat_map (λ q. padded row_places 0 q.vertices) qs) ≡ row_places * length qs
unfolding size_of
vertices_long qs h = flat_length (λ q. padded row_places 0 q.vertices) row_places qs
    (every_imp Shaped (λ q. length (padded row_places 0 q.vertices) ≡ row_places) qs (λ q s. length_padded row_places 0 q.vertices s.high) h)

rows_long : (q : Piece) → Shaped q → length (flat_map (padded row_places 0) q.rows) ≤ table_places
rows_long q s = omega (
  arith,
  s.tall,
  s.high,
  flat_length (padded row_places 0) row_places q.rows
      (every_imp (λ row. length row ≡ size_of q) (λ row. length (padded row_places 0 row) ≡ row_places) q.rows (λ row e. length_padded row_places 0 row (omega (arith, s.high))) s.wide),
)

table_long : (q : Piece) → Shaped q → length (table_of q) ≡ table_places
unfolding table_of
table_long q s = length_padded table_places 0 (flat_map (padded row_places 0) q.rows) (rows_long q s)

pub tables_long : (qs : List Piece) → Every Shaped qs → length (flat_map table_of qs) ≡ table_places * length qs
tables_long qs h = flat_length table_of table_places qs (every_imp Shaped (λ q. length (table_of q) ≡ table_places) qs table_long h)

-- ---- the buffers

pub record Held (qs : List Piece) (sizes vertices lengths : List ℕ) : Type 0 where
  pub shaped : Every Shaped qs
  pub sizes_hold : sizes ≡ sizes_of qs
  pub vertices_hold : vertices ≡ vertices_of qs
  pub lengths_hold : lengths ≡ lengths_of qs

pub held_none : (sizes vertices lengths : List ℕ) → sizes ≡ replicate size_places 0 → vertices ≡ replicate vertex_places 0 → lengths ≡ replicate length_places 0 → Held [] sizes vertices lengths
unfolding sizes_of vertices_of lengths_of padded flat_map
held_none sizes vertices lengths e f g = record { shaped = tt; sizes_hold = e; vertices_hold = f; lengths_hold = g }

-- one piece more
module _ (qs : List Piece) (q : Piece) (sizes vertices lengths : List ℕ) (held : Held qs sizes vertices lengths) (shape : Shaped q) (d : ℕ) (count : length qs ≡ d) (room : d < size_places) where
  more_sizes : set sizes d (size_of q) ≡ sizes_of (qs ++ q ∷ [])
  unfolding sizes_of
  more_sizes = rw (held.sizes_hold, map-append size_of qs (q ∷ [])) (set_padded size_places (map size_of qs) d (size_of q) (length-map qs size_of ∙ count) room)

  more_vertices : put vertices (row_places * d) q.vertices ≡ vertices_of (qs ++ q ∷ [])
  unfolding vertices_of size_of
  more_vertices =
      let f : Piece → List ℕ = λ r. padded row_places 0 r.vertices in
      let n : length (flat_map f qs) ≡ row_places * d = vertices_long qs held.shaped ∙ ap (λ (k : ℕ). row_places * k) count in
      rw (held.vertices_hold, flat_map_snoc f qs q)
      (put_padded vertex_places (flat_map f qs) q.vertices (row_places * d) n (omega (arith, shape.high))
      ∙ sym (padded_inner vertex_places row_places (flat_map f qs) q.vertices shape.high (omega (arith, n))))

  more_lengths : put lengths (table_places * d) (table_of q) ≡ lengths_of (qs ++ q ∷ [])
  unfolding lengths_of
  more_lengths =
      let n : length (flat_map table_of qs) ≡ table_places * d = tables_long qs held.shaped ∙ ap (λ (k : ℕ). table_places * k) count in
      rw (held.lengths_hold, flat_map_snoc table_of qs q)
      (put_padded length_places (flat_map table_of qs) (table_of q) (table_places * d) n (omega (arith, table_long q shape)))

  held_more : Held (qs ++ q ∷ []) (set sizes d (size_of q)) (put vertices (row_places * d) q.vertices) (put lengths (table_places * d) (table_of q))
  held_more = record {
    shaped = every_snoc Shaped qs q held.shaped shape;
    sizes_hold = more_sizes;
    vertices_hold = more_vertices;
    lengths_hold = more_lengths;
  }

-- ---- the places of the next table

take_replicate : (n k : ℕ) → k ≤ n → take {A = ℕ} k (replicate n 0) ≡ replicate k 0
take_replicate n zero h = refl
take_replicate zero (suc k) h = absurd (omega arith)
take_replicate (suc n) (suc k) h = ap (λ (l : List ℕ). 0 ∷ l) (take_replicate n k (omega arith))

table_clear : (qs : List Piece) (sizes vertices lengths : List ℕ) → Held qs sizes vertices lengths → (d : ℕ) → length qs ≡ d → d < size_places
    → take table_places (drop (table_places * d) lengths) ≡ replicate table_places 0
unfolding lengths_of padded
table_clear qs sizes vertices lengths held d count room =
    let n : length (flat_map table_of qs) ≡ table_places * d = tables_long qs held.shaped ∙ ap (λ (k : ℕ). table_places * k) count in
    rw (held.lengths_hold, drop_at (flat_map table_of qs) (replicate (length_places - length (flat_map table_of qs)) 0) (table_places * d) n)
    (take_replicate (length_places - length (flat_map table_of qs)) table_places (omega (arith, n)))

-- ---- a size

pub record Sized (text : List ℕ) (at m : ℕ) : Type 0 where
  pub low : 1 ≤ m
  pub high : m ≤ max_size
  pub inside : at + field_bytes ≤ length text

pub size_facts : (text : List ℕ) (at m : ℕ) → (x : ℕ) × (judged judge_size (read_field field_at text at) ≡ value x) × (m ≡ x) → Sized text at m
unfolding judged
size_facts text at m d =
    let a = bind_value (read_field field_at text at) _ d.0 d.1 in
    let b = bind_value (require (judge_size a.0)) _ d.0 a.2 in
    let same : a.0 ≡ m = value_same a.0 d.0 b.2 ∙ sym d.2 in
    let bounds = size_in_lem a.0 (require_value (judge_size a.0) b.0 b.1) in
    record { low = omega (arith, same, bounds); high = omega (arith, same, bounds); inside = field_in field_at (field_inside field_of) text at a.0 a.1 }

-- the bytes of a table's lines: at most those of the largest table, so that a place behind them fits its type
abbrev pub max_table_bytes : ℕ
max_table_bytes = max_size * line_bytes max_size

pub table_few : (m : ℕ) → m ≤ max_size → m * line_bytes m ≤ max_table_bytes
table_few m h = mul-le-mul h (let z : line_bytes m ≤ line_bytes max_size = (omega arith) in z)

-- ---- a table

-- for every list of m vertices: its blocks do not ask which they are
abbrev pub TableRead : List ℕ → ℕ → ℕ → Result ⊤ Cause → List ℕ → Type 0
TableRead text at m result table = (vs : List ℕ) → length vs ≡ m → Came (judged (λ rows. judge_blocks (piece_of vs rows)) (read_rows text at m 0 m)) result (λ _. RowsLeft text at m table)

pub table_judged : (text : List ℕ) (at m : ℕ) (table : List ℕ) → (rows : List (List ℕ)) × (read_rows text at m 0 m ≡ value rows) × RowsLeft text at m table rows → 1 ≤ m → m ≤ max_size → length table ≡ table_places
    → (r : Result ⊤ Cause) → verdict r ≡ judge_table m table → TableRead text at m r table
unfolding judge_size within rows_in size_of
table_judged text at m table d low high long r e vs n =
    let left = d.2 in
    let same : rows_in m table ≡ d.0 = rw (← left.tall) (rows_back (length d.0) table d.0 (omega (arith, left.tall)) (rw (← left.tall) at left.wide) left.held) in
    let size : judge_size m ≡ 0 = simp (le-leb _ _ low, le-leb _ _ high) in
    judged_tail (λ rows. judge_blocks (piece_of vs rows)) (read_rows text at m 0 m) (RowsLeft text at m table) d.0 d.1 left r
    (e ∙ table_blocks m table (piece_of vs d.0) long size n (sym same))

-- ---- the loop

-- what one piece leaves, behind those that stand already
pub record PieceLeft (text : List ℕ) (at : ℕ) (qs : List Piece) (next : ℕ) (sizes vertices lengths : List ℕ) (q : Piece) : Type 0 where
  pub held : Held (qs ++ q ∷ []) sizes vertices lengths
  pub reached : next ≡ at + piece_bytes q
  pub inside : next ≤ length text

-- what `read_piece` leaves behind d pieces that the buffers hold, whichever they are
abbrev pub ReadPieceLeaves : List ℕ → ℕ → ℕ → ℕ → List ℕ → List ℕ → List ℕ → Result ℕ Cause → List ℕ → List ℕ → List ℕ → Type 0
ReadPieceLeaves text n at d sizes vertices lengths result sizes' vertices' lengths' =
    (qs : List Piece) → length qs ≡ d → Held qs sizes vertices lengths → Came (read_piece text n at) result (λ next. PieceLeft text at qs next sizes' vertices' lengths')

-- room for a piece behind the d that the buffers hold
pub record Room (d : ℕ) (sizes vertices lengths : List ℕ) : Type 0 where
  pub pieces : List Piece
  pub count : length pieces ≡ d
  pub held : Held pieces sizes vertices lengths

module _ (d : ℕ) (sizes vertices lengths : List ℕ) (room : Room d sizes vertices lengths) (below : d ≤ size_places) where
  pub sizes_long : length sizes ≡ size_places
  unfolding sizes_of
  sizes_long = ap length room.held.sizes_hold ∙ length_padded size_places 0 (map size_of room.pieces) (omega (arith, room.count, length-map room.pieces size_of))

  pub vertices_full : length vertices ≡ vertex_places
  unfolding vertices_of
  vertices_full = ap length room.held.vertices_hold ∙ length_padded vertex_places 0 _ (omega (arith, room.count, vertices_long room.pieces room.held.shaped))

  pub lengths_full : length lengths ≡ length_places
  unfolding lengths_of
  lengths_full = ap length room.held.lengths_hold ∙ length_padded length_places 0 _ (omega (arith, room.count, tables_long room.pieces room.held.shaped))

-- the places that a piece behind d others is read into: all are there, and those of its table are 0
pub record Free (d : ℕ) (vertices lengths : List ℕ) : Type 0 where
  pub all_vertices : length vertices ≡ vertex_places
  pub all_lengths : length lengths ≡ length_places
  pub clear : take table_places (drop (table_places * d) lengths) ≡ replicate table_places 0

pub free_of : (d : ℕ) (sizes vertices lengths : List ℕ) → Room d sizes vertices lengths → d < size_places → Free d vertices lengths
free_of d sizes vertices lengths room below = record {
  all_vertices = vertices_full d sizes vertices lengths room (omega arith);
  all_lengths = lengths_full d sizes vertices lengths room (omega arith);
  clear = table_clear room.pieces sizes vertices lengths room.held d room.count below;
}

-- a piece, with its vertices and its table in their places
pub record SizedLeft (text : List ℕ) (at : ℕ) (vs table : List ℕ) (q : Piece) : Type 0 where
  pub shape : Shaped q
  pub vertices_are : vs ≡ q.vertices
  pub table_is : table ≡ table_of q
  pub inside : at + piece_bytes q ≤ length text

module _ (text : List ℕ) (n at m : ℕ) where
  module _ (vs : List ℕ) (line : (xs : List ℕ) × (judged (judge_vertices n) (read_line field_at text (at + field_bytes) m) ≡ value xs) × (vs ≡ xs)) where
    listed : judged (judge_vertices n) (read_line field_at text (at + field_bytes) m) ≡ value vs
    listed = line.1 ∙ ap value (sym line.2)

    -- where the rows begin
    pub rows_place : at + field_bytes * (m + 1) + 1 ≤ length text
    rows_place = omega (arith, line_end_in field_at (judge_vertices n) text (at + field_bytes) m vs listed)

    module _ (long : length vs ≡ m) (table : List ℕ) where
      where_rows : at + field_bytes * (m + 1) + 1 ≡ at + line_bytes (suc m)
      where_rows = omega arith

      module _ (low : 1 ≤ m) (high : m ≤ max_size) where
        sized_left : (rows : List (List ℕ)) → RowsLeft text (at + line_bytes (suc m)) m table rows → SizedLeft text at vs table (piece_of vs rows)
        unfolding piece_bytes size_of table_of
        sized_left rows left = record {
          shape = record { low = rw long low; high = rw long high; tall = left.tall ∙ sym long; wide = rw long left.wide };
          vertices_are = refl;
          table_is = left.held;
          inside = rw long (omega (arith, left.inside));
        }

        pub sized_read : (r : Result ⊤ Cause) → TableRead text (at + field_bytes * (m + 1) + 1) m r table → Came (read_sized text n at m) r (λ _. SizedLeft text at vs table)
        sized_read (Ok u) read = let w = rw where_rows at (read vs long) in (piece_of vs w.0, table_go text n at m vs listed w.0 w.1, sized_left w.0 w.2)
        sized_read (Err e) read = table_stop text n at m vs listed (number_of e) (rw where_rows at (read vs long))

-- a piece, from its size and what follows
module _ (text : List ℕ) (n at m : ℕ) (size : (x : ℕ) × (judged judge_size (read_field field_at text at) ≡ value x) × (m ≡ x)) where
  sized : read_piece text n at ≡ read_sized text n at m
  sized = piece_go text n at m (size.1 ∙ ap value (sym size.2))

  module _ (k : ℕ) (same : k ≡ m) where
    pub piece_unread : (j : ℕ) → read_sized text n at k ≡ refused j → read_piece text n at ≡ refused j
    piece_unread j e = sized ∙ rw same at e

    -- behind the d pieces that the buffers hold
    pub piece_read : (d : ℕ) (vs table : List ℕ) → length vs ≡ m → (q : Piece) × (read_sized text n at k ≡ value q) × SizedLeft text at vs table q
        → (qs : List Piece) (s v l : List ℕ) → length qs ≡ d → d < size_places → Held qs s v l
        → (q : Piece) × (read_piece text n at ≡ value q)
        × PieceLeft text at qs (at + field_bytes * (m + 1) + 1 + m * line_bytes m) (set s d m) (put v (row_places * d) vs) (put l (table_places * d) table) q
    unfolding piece_bytes size_of
    piece_read d vs table long w qs s v l count room held =
        let left = w.2 in
        let size : size_of w.0 ≡ m = ap length (sym left.vertices_are) ∙ long in
        let reached : at + field_bytes * (m + 1) + 1 + m * line_bytes m ≡ at + piece_bytes w.0 = rw size (omega arith) in (
          w.0,
          sized ∙ rw same at w.1,
          record {
            held = rw (← size, left.vertices_are, left.table_is) (held_more qs w.0 s v l held left.shape d count room);
            reached = reached;
            inside = omega (arith, reached, left.inside);
          },
        )

-- d pieces are in the buffers, and the next begins at a place of the text
pub record PiecesGoing (text : List ℕ) (n at p d place : ℕ) (sizes vertices lengths : List ℕ) : Type 0 where
  pub pieces : List Piece
  pub count : length pieces ≡ d
  pub held : Held pieces sizes vertices lengths
  pub so_far : read_pieces text n at p ≡ after pieces (read_pieces text n place (p - d))
  pub reached : place ≡ at + total (map piece_bytes pieces)
  pub inside : place ≤ length text

pub pieces_begun : (text : List ℕ) (n at p : ℕ) (sizes vertices lengths : List ℕ) → Held [] sizes vertices lengths → at ≤ length text → PiecesGoing text n at p 0 at sizes vertices lengths
unfolding total
pieces_begun text n at p sizes vertices lengths h l =
    let z : p - 0 ≡ p = (omega arith) in
    record { pieces = []; count = refl; held = h; so_far = rw z (sym (after_none (read_pieces text n at p))); reached = omega arith; inside = l }

module _ (text : List ℕ) (n at p d place : ℕ) (s v l : List ℕ) (g : PiecesGoing text n at p d place s v l) (more_left : d < p) where
  pub pieces_turn : (next : ℕ) (s' v' l' : List ℕ) → (q : Piece) × (read_piece text n place ≡ value q) × PieceLeft text place g.pieces next s' v' l' q → PiecesGoing text n at p (d + 1) next s' v' l'
  unfolding total
  pieces_turn next s' v' l' w =
      let q = w.0 in
      let k : p - d ≡ suc (p - (d + 1)) = (omega arith) in
      record {
        pieces = g.pieces ++ q ∷ [];
        count = length-append g.pieces (q ∷ []) ∙ ap (λ (j : ℕ). j + 1) g.count;
        held = w.2.held;
        so_far = g.so_far ∙ rw (k, pieces_go text n place (p - (d + 1)) q w.1, after_after, w.2.reached);
        reached = omega (arith, w.2.reached, g.reached, total_append piece_bytes g.pieces (q ∷ []));
        inside = w.2.inside;
      }

  pub pieces_broken : (j : ℕ) → read_piece text n place ≡ refused j → read_pieces text n at p ≡ refused j
  unfolding after
  pieces_broken j e =
      let k : p - d ≡ suc (p - (d + 1)) = (omega arith) in
      g.so_far ∙ rw (k, pieces_stop text n place (p - (d + 1)) j e)

-- what all pieces leave
pub record PiecesLeft (text : List ℕ) (at p next : ℕ) (sizes vertices lengths : List ℕ) (qs : List Piece) : Type 0 where
  pub count : length qs ≡ p
  pub held : Held qs sizes vertices lengths
  pub reached : next ≡ at + total (map piece_bytes qs)
  pub inside : next ≤ length text

pub pieces_ended : (text : List ℕ) (n at p d place : ℕ) (s v l : List ℕ) → PiecesGoing text n at p d place s v l → d ≡ p
    → (qs : List Piece) × (read_pieces text n at p ≡ value qs) × PiecesLeft text at p place s v l qs
unfolding after read_pieces
pieces_ended text n at p d place s v l g e =
    let z : p - d ≡ 0 = (omega arith) in
    (g.pieces, g.so_far ∙ rw (z, append-nil), record { count = g.count ∙ e; held = g.held; reached = g.reached; inside = g.inside })
