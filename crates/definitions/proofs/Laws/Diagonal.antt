-- A text is refused by 6 exactly where its first cause is a length on the diagonal that is not 0: both halves of `refused_by_6_exactly` in the file Text.
--   wrong_diagonal diagonal_judged a row whose lengths a table may hold is refused for its diagonal only
--   rows_stop rows_stopped         rows up to the one that is refused, and back
--   piece_stop piece_stopped       a piece
--   pieces_stop pieces_stopped     pieces
--   diagonal_is diagonal_back      the whole text
use Rattle.std.specs.Prelude.{◌≡◌, refl, true, ◌&&◌, ◌≢◌, ◌⊎◌, ℕ, zero, suc, ◌+◌, ◌*◌, ◌≤◌, ◌<◌, leb, get_or}
use Rattle.std.proofs.Common.{subst, sym, ap, ◌∙◌, inl, inr, leb-true, le-leb, eq-eqb, ne_eqb}
use Rattle.std.proofs.Math.Bool.{and-false}
use mathlib.Core.List.{List, [], ◌∷◌, ◌++◌, map, flat_map, append_assoc}
use native.Mathlib.Omega.{arith}
use Rattle.std.proofs.Math.ListN.{length, drop}
use Rattle.definitions.specs.Limits.{max_vertices, max_pieces, max_size, max_text}
use Rattle.definitions.specs.Lists.{every, Every, different, within, total}
use Rattle.definitions.specs.Metres.{is_length}
use Rattle.definitions.specs.Network.{Piece, size_of}
use Rattle.definitions.specs.Blocks.{blocks_of, passes}
use Rattle.definitions.specs.Judgement.{judge_bounds, judge_size, judge_vertices, judge_row, judge_blocks}
use Rattle.definitions.specs.Fields.{field_bytes, field_at, length_at}
use Rattle.definitions.specs.Reading.{Read, refused, value, ◌>>=◌, require, read_field, read_line, line_bytes, read_rows, read_piece, piece_bytes, read_pieces, Question, read_question, Plan, read_body, read_plan, judge_length, read_text}
use Rattle.definitions.specs.Written.{written_field, written_length, written_line, written_piece, StoppedPiece, DiagonalFirst}
use Rattle.definitions.proofs.Laws.Members.{every_test}
use Rattle.definitions.proofs.Laws.CauseLaws.{test_holds, bounds_in, size_in_lem, rows_short, Short}
use Rattle.definitions.proofs.Laws.ReadLaws.{value_same, bind_value, require_value, line_length}
use Rattle.definitions.specs.Laws.FieldBound.{max_field}
use Rattle.definitions.proofs.Laws.FieldKinds.{plain_fields, length_fields}
use Rattle.definitions.proofs.Laws.LineProofs.{stands_both, line_written, rows_read, sized_written, pieces_read, two_numbers}
use Rattle.definitions.proofs.Laws.LineBack.{vertices_small, line_back, rows_back, sized_back, pieces_back}
use Rattle.definitions.proofs.Laws.NeverRefused.{Never, past, upto, either, value_never, then_never, require_is, cause_never, field_never, line_never, question_never}

-- ---- the diagonal

wrong_diagonal : (i : ℕ) (row : List ℕ) → Short row → judge_row i row ≡ 6 → get_or row i 0 ≢ 0
unfolding judge_row
wrong_diagonal i row s j h =
    let short : every is_length row ≡ true = every_test is_length (λ l. is_length l ≡ true) (λ l t. t) row s in
    let z : ◌≡◌ {A = ℕ} 0 6 = simp (short, eq-eqb (get_or row i 0) 0 h) at j in
    omega arith

diagonal_judged : (i : ℕ) (row : List ℕ) → get_or row i 0 ≢ 0 → judge_row i row ≡ 6
unfolding judge_row
diagonal_judged i row h = simp (ne_eqb (get_or row i 0) 0 h, and-false)

-- ---- rows

-- rows that were read, and behind them one that is refused by 6
record RowsStop (text : List ℕ) (at m i k : ℕ) : Type 0 where
  rows : List (List ℕ)
  row : List ℕ
  few : length rows < k
  read : read_rows text at m i (length rows) ≡ value rows
  line : read_line length_at text (at + length rows * line_bytes m) m ≡ value row
  judged : judge_row (i + length rows) row ≡ 6

row_here : (text : List ℕ) (at m i k : ℕ) (row : List ℕ) → read_line length_at text at m ≡ value row → judge_row i row ≡ 6 → RowsStop text at m i (suc k)
unfolding read_rows
row_here text at m i k row line judged =
    let z : at + 0 * line_bytes m ≡ at = omega arith in
    let y : i + 0 ≡ i = omega arith in
    record { rows = []; row = row; few = omega arith; read = refl; line = rw z line; judged = rw y judged }

row_later : (text : List ℕ) (at m i k : ℕ) (row : List ℕ) → read_line length_at text at m ≡ value row → judge_row i row ≡ 0 → RowsStop text (at + line_bytes m) m (suc i) k → RowsStop text at m i (suc k)
unfolding read_rows
row_later text at m i k row line judged r =
    let z : at + suc (length r.rows) * line_bytes m ≡ at + line_bytes m + length r.rows * line_bytes m = omega arith in
    let y : i + suc (length r.rows) ≡ suc i + length r.rows = omega arith in
    record { rows = row ∷ r.rows; row = r.row; few = omega (arith, r.few); read = rw (line, judged, r.read); line = rw z r.line; judged = rw y r.judged }

rows_stop : (text : List ℕ) (at m i k : ℕ) → read_rows text at m i k ≡ refused 6 → RowsStop text at m i k
unfolding read_rows
rows_stop text at m i zero e = absurd (value_never 6 [] e)
rows_stop text at m i (suc k) e =
    let a = past 6 (read_line length_at text at m) _ (line_never length_fields 6 (omega arith) text at m) e in
    go a.0 a.1 (either 6 (require (judge_row i a.0)) _ a.2) (λ h. rows_stop text (at + line_bytes m) m (suc i) k h)
  where
    more : List ℕ → Read (List (List ℕ))
    more row = ◌>>=◌ (read_rows text (at + line_bytes m) m (suc i) k) (λ rows. value (row ∷ rows))

    go : (row : List ℕ) → read_line length_at text at m ≡ value row → (require (judge_row i row) ≡ refused 6) ⊎ ((u : Unit {0}) × (require (judge_row i row) ≡ value u) × (more row ≡ refused 6))
        → (read_rows text (at + line_bytes m) m (suc i) k ≡ refused 6 → RowsStop text (at + line_bytes m) m (suc i) k) → RowsStop text at m i (suc k)
    go row line (inl h) ih = row_here text at m i k row line (require_is 6 (judge_row i row) h)
    go row line (inr h) ih =
        let later = upto 6 (read_rows text (at + line_bytes m) m (suc i) k) (λ rows. value (row ∷ rows)) (λ rows. value_never 6 (row ∷ rows)) h.2 in
        row_later text at m i k row line (require_value (judge_row i row) h.0 h.1) (ih later)

rows_stopped : (rows : List (List ℕ)) (text : List ℕ) (at m i k : ℕ) (row : List ℕ) → length rows < k → read_rows text at m i (length rows) ≡ value rows
    → read_line length_at text (at + length rows * line_bytes m) m ≡ value row → judge_row (i + length rows) row ≡ 6 → read_rows text at m i k ≡ refused 6
unfolding read_rows
rows_stopped rows text at m i zero row few read line judged = absurd (omega arith)
rows_stopped [] text at m i (suc k) row few read line judged =
    let z : at + 0 * line_bytes m ≡ at = omega arith in
    let y : i + 0 ≡ i = omega arith in
    let here : read_line length_at text at m ≡ value row = rw z at line in
    let six : judge_row i row ≡ 6 = rw y at judged in
    rw (here, six)
rows_stopped (first ∷ rows) text at m i (suc k) row few read line judged =
    let a = bind_value (read_line length_at text at m) _ (first ∷ rows) read in
    let b = bind_value (require (judge_row i a.0)) _ (first ∷ rows) a.2 in
    let c = bind_value (read_rows text (at + line_bytes m) m (suc i) (length rows)) _ (first ∷ rows) b.2 in
    let same : (a.0 ∷ c.0) ≡ (first ∷ rows) = value_same (a.0 ∷ c.0) (first ∷ rows) c.2 in
    let rest : c.0 ≡ rows = cc in
    let z : at + suc (length rows) * line_bytes m ≡ at + line_bytes m + length rows * line_bytes m = omega arith in
    let y : i + suc (length rows) ≡ suc i + length rows = omega arith in
    let later = rows_stopped rows text (at + line_bytes m) m (suc i) k row (omega arith) (c.1 ∙ ap value rest) (rw z at line) (rw y at judged) in
    rw (a.1, require_value (judge_row i a.0) b.0 b.1, later)

-- ---- a piece

-- the bytes of a piece that stops, from its place on
record PieceStop (text : List ℕ) (n at : ℕ) : Type 0 where
  piece : Piece
  row : List ℕ
  behind : List ℕ
  stands : drop at text ≡ written_piece piece ++ (written_line written_length row ++ behind)
  stopped : StoppedPiece n piece row

module _ (text : List ℕ) (n at m : ℕ) (vertices : List ℕ) (size : read_field field_at text at ≡ value m) (line : read_line field_at text (at + field_bytes) m ≡ value vertices) where
  stop_made : judge_size m ≡ 0 → judge_vertices n vertices ≡ 0 → RowsStop text (at + line_bytes (suc m)) m 0 m → PieceStop text n at
  unfolding written_piece size_of
  stop_made Size-ok vertices-ok r =
      let long : length vertices ≡ m = line_length field_at text (at + field_bytes) m vertices line in
      let rows = rows_read text (at + line_bytes (suc m)) m 0 (length r.rows) r.rows r.read in
      let x : 0 + length r.rows ≡ length r.rows = omega arith in
      let first = sized_written text at m vertices size line in
      let front = stands_both text at (line_bytes (suc m)) (length r.rows * line_bytes m) (written_line written_field (m ∷ vertices)) (flat_map (written_line written_length) r.rows) first rows.stands in
      let y : at + line_bytes (suc m) + length r.rows * line_bytes m ≡ at + (line_bytes (suc m) + length r.rows * line_bytes m) = omega arith in
      let last = line_written length_fields text (at + (line_bytes (suc m) + length r.rows * line_bytes m)) m r.row (rw y at r.line) in
      record {
        piece = record { vertices = vertices; rows = r.rows };
        row = r.row;
        behind = drop (at + (line_bytes (suc m) + length r.rows * line_bytes m) + line_bytes m) text;
        stands = rw long (front ∙ rw last.0);
        stopped = record {
          size = rw long Size-ok;
          vertices_in = vertices-ok;
          judged = rows.judged;
          wide = (rw long (line_length length_at text (at + line_bytes (suc m) + length r.rows * line_bytes m) m r.row r.line), subst (λ k. Every (λ row. length row ≡ k) r.rows) (sym long) rows.wide);
          rows_left = omega (arith, r.few);
          short = last.1;
          diagonal = wrong_diagonal (length r.rows) r.row last.1 (rw x at r.judged);
        };
      }

piece_stop : (text : List ℕ) (n at : ℕ) → read_piece text n at ≡ refused 6 → PieceStop text n at
unfolding read_piece judge_size judge_vertices judge_blocks
piece_stop text n at e =
    let a = past 6 (read_field field_at text at) _ (field_never plain_fields 6 (omega arith) text at) e in
    let m = a.0 in
    let b = past 6 (require (judge_size m)) _ (cause_never 6 (within max_size m) 4 (λ z. omega arith)) a.2 in
    let c = past 6 (read_line field_at text (at + field_bytes) m) _ (line_never plain_fields 6 (omega arith) text (at + field_bytes) m) b.2 in
    let vertices = c.0 in
    let d = past 6 (require (judge_vertices n vertices)) _ (cause_never 6 (every (within n) vertices && different vertices) 5 (λ z. omega arith)) c.2 in
    let f = upto 6 (read_rows text (at + line_bytes (suc m)) m 0 m) _ (λ rows. blocks_never (record { vertices = vertices; rows = rows })) d.2 in
    stop_made text n at m vertices a.1 c.1
    (require_value (judge_size m) b.0 b.1)
    (require_value (judge_vertices n vertices) d.0 d.1)
    (rows_stop text (at + line_bytes (suc m)) m 0 m f)
  where
    blocks_never : (q : Piece) → Never 6 (◌>>=◌ (require (judge_blocks q)) (λ _. value q))
    blocks_never q = then_never 6 (require (judge_blocks q)) (λ _. value q) (cause_never 6 (every passes (blocks_of 0 q)) 7 (λ z. omega arith)) (λ _. value_never 6 q)

piece_stopped : (text : List ℕ) (n at : ℕ) (q : Piece) (row behind : List ℕ) → n ≤ max_field → StoppedPiece n q row → drop at text ≡ written_piece q ++ (written_line written_length row ++ behind)
    → read_piece text n at ≡ refused 6
unfolding read_piece written_piece size_of
piece_stopped text n at q row behind few s h =
    let m = length q.vertices in
    let size = size_in_lem m s.size in
    let here : drop at text ≡ written_line written_field (m ∷ q.vertices) ++ (flat_map (written_line written_length) q.rows ++ (written_line written_length row ++ behind)) = h ∙ append_assoc (written_line written_field (m ∷ q.vertices)) (flat_map (written_line written_length) q.rows) (written_line written_length row ++ behind) in
    let line = sized_back text at m q.vertices (flat_map (written_line written_length) q.rows ++ (written_line written_length row ++ behind)) (omega (arith, size.1)) (vertices_small n q.vertices few s.vertices_in) refl here in
    let rows = rows_back text (at + line_bytes (suc m)) m 0 q.rows (written_line written_length row ++ behind) s.wide.1 (rows_short 0 q.rows s.judged) s.judged line.2 in
    let next = line_back length_fields text (at + line_bytes (suc m) + length q.rows * line_bytes m) row behind m s.wide.0 s.short rows.1 in
    let x : 0 + length q.rows ≡ length q.rows = omega arith in
    let stop = rows_stopped q.rows text (at + line_bytes (suc m)) m 0 m row s.rows_left rows.0 next.0 (rw x (diagonal_judged (length q.rows) row s.diagonal)) in
    rw (line.0, s.size, line.1, s.vertices_in, stop)

-- ---- pieces

-- pieces that were read, and behind them one that is refused by 6
record PiecesStop (text : List ℕ) (n at k : ℕ) : Type 0 where
  before : List Piece
  few : length before < k
  read : read_pieces text n at (length before) ≡ value before
  stop : read_piece text n (at + total (map piece_bytes before)) ≡ refused 6

pieces_stop : (text : List ℕ) (n at k : ℕ) → read_pieces text n at k ≡ refused 6 → PiecesStop text n at k
unfolding read_pieces total
pieces_stop text n at zero e = absurd (value_never 6 [] e)
pieces_stop text n at (suc k) e = go (either 6 (read_piece text n at) more e) (λ q h. pieces_stop text n (at + piece_bytes q) k h)
  where
    more : Piece → Read (List Piece)
    more q = ◌>>=◌ (read_pieces text n (at + piece_bytes q) k) (λ qs. value (q ∷ qs))

    go : (read_piece text n at ≡ refused 6) ⊎ ((q : Piece) × (read_piece text n at ≡ value q) × (more q ≡ refused 6))
        → ((q : Piece) → read_pieces text n (at + piece_bytes q) k ≡ refused 6 → PiecesStop text n (at + piece_bytes q) k) → PiecesStop text n at (suc k)
    go (inl h) ih = let z : at + 0 ≡ at = omega arith in record { before = []; few = omega arith; read = refl; stop = rw z h }
    go (inr h) ih =
        let q = h.0 in
        let r = ih q (upto 6 (read_pieces text n (at + piece_bytes q) k) (λ qs. value (q ∷ qs)) (λ qs. value_never 6 (q ∷ qs)) h.2) in
        let z : at + (piece_bytes q + total (map piece_bytes r.before)) ≡ at + piece_bytes q + total (map piece_bytes r.before) = omega arith in
        record { before = q ∷ r.before; few = omega (arith, r.few); read = rw (h.1, r.read); stop = rw z r.stop }

pieces_stopped : (before : List Piece) (text : List ℕ) (n at k : ℕ) → length before < k → read_pieces text n at (length before) ≡ value before
    → read_piece text n (at + total (map piece_bytes before)) ≡ refused 6 → read_pieces text n at k ≡ refused 6
unfolding read_pieces total
pieces_stopped before text n at zero few read stop = absurd (omega arith)
pieces_stopped [] text n at (suc k) few read stop =
    let z : at + 0 ≡ at = omega arith in
    let here : read_piece text n at ≡ refused 6 = rw z at stop in
    rw here
pieces_stopped (q ∷ qs) text n at (suc k) few read stop =
    let a = bind_value (read_piece text n at) _ (q ∷ qs) read in
    let b = bind_value (read_pieces text n (at + piece_bytes a.0) (length qs)) _ (q ∷ qs) a.2 in
    let same : (a.0 ∷ b.0) ≡ (q ∷ qs) = value_same (a.0 ∷ b.0) (q ∷ qs) b.2 in
    let first : a.0 ≡ q = cc in
    let rest : b.0 ≡ qs = cc in
    let z : at + (piece_bytes q + total (map piece_bytes qs)) ≡ at + piece_bytes q + total (map piece_bytes qs) = omega arith in
    let later = pieces_stopped qs text n (at + piece_bytes q) k (omega arith) (rw first at (b.1 ∙ ap value rest)) (rw z at stop) in
    rw (a.1, first, later)

-- ---- the whole text

body_stop : (text : List ℕ) (n p : ℕ) → read_body text n p ≡ refused 6 → (judge_bounds n p ≡ 0) × PiecesStop text n (line_bytes 2) p
unfolding read_body judge_bounds
body_stop text n p e =
    let a = past 6 (require (judge_bounds n p)) _ (cause_never 6 (within max_vertices n && within max_pieces p) 4 (λ z. omega arith)) e in
    let b = upto 6 (read_pieces text n (line_bytes 2) p) _ (λ qs. rest_never qs (line_bytes 2 + total (map piece_bytes qs))) a.2 in
    (require_value (judge_bounds n p) a.0 a.1, pieces_stop text n (line_bytes 2) p b)
  where
    said : List Piece → Question → Plan
    said qs question = record { n = n; pieces = qs; source = question.source; target = question.target }

    -- what follows the pieces
    rest_never : (qs : List Piece) (at : ℕ) → Never 6 (◌>>=◌ (read_question text n at) (λ question. value (said qs question)))
    rest_never qs at = then_never 6 (read_question text n at) _ (question_never 6 (omega arith) (λ z. omega arith) (λ z. omega arith) text n at) (λ question. value_never 6 (said qs question))

lines_joined : (text first two front middle back stop : List ℕ) → first ≡ two → text ≡ written_line written_field first ++ front → front ≡ middle ++ back → back ≡ stop → text ≡ written_line written_field two ++ (middle ++ stop)
lines_joined text first two front middle back stop f t m b = t ∙ rw (f, m, b)

plan_stop : (text : List ℕ) → read_plan text ≡ refused 6 → DiagonalFirst text
unfolding read_plan
plan_stop text e =
    let a = past 6 (read_line field_at text 0 2) _ (line_never plain_fields 6 (omega arith) text 0 2) e in
    let first = a.0 in
    let n = get_or first 0 0 in
    let p = get_or first 1 0 in
    let two : first ≡ n ∷ p ∷ [] = two_numbers first (line_length field_at text 0 2 first a.1) in
    let body = body_stop text n p a.2 in
    let pieces = body.1 in
    let read = pieces_read text n (line_bytes 2) (length pieces.before) pieces.before pieces.read in
    let at = line_bytes 2 + total (map piece_bytes pieces.before) in
    let stop = piece_stop text n at pieces.stop in
    record {
      n = n;
      p = p;
      before = pieces.before;
      piece = stop.piece;
      row = stop.row;
      behind = stop.behind;
      lines =
          lines_joined text first (n ∷ p ∷ []) (drop (line_bytes 2) text) (flat_map written_piece pieces.before) (drop at text) (written_piece stop.piece ++ (written_line written_length stop.row ++ stop.behind))
          two (line_written plain_fields text 0 2 first a.1).0 read.stands stop.stands;
      bounds = body.0;
      each = read.each;
      pieces_left = pieces.few;
      stopped = stop.stopped;
    }

plan_stopped : (text : List ℕ) → DiagonalFirst text → read_plan text ≡ refused 6
unfolding read_plan read_body
plan_stopped text d =
    let n = d.n in
    let p = d.p in
    let few = bounds_in n p d.bounds in
    let stop = written_piece d.piece ++ (written_line written_length d.row ++ d.behind) in
    let line = line_back plain_fields text 0 (n ∷ p ∷ []) (flat_map written_piece d.before ++ stop) 2 refl (omega (arith, few.0), (omega (arith, few.1), tt)) d.lines in
    let pieces = pieces_back text n (line_bytes 2) d.before stop (omega (arith, few.0)) d.each line.1 in
    let piece = piece_stopped text n (line_bytes 2 + total (map piece_bytes d.before)) d.piece d.row d.behind (omega (arith, few.0)) d.stopped pieces.1 in
    rw (line.0, d.bounds, pieces_stopped d.before text n (line_bytes 2) p d.pieces_left pieces.0 piece)

pub diagonal_is : (text : List ℕ) → read_text text ≡ refused 6 → (length text ≤ max_text) × DiagonalFirst text
unfolding read_text judge_length
diagonal_is text e =
    let a = past 6 (require (judge_length text)) _ (cause_never 6 (leb (length text) max_text) 2 (λ z. omega arith)) e in
    let short = require_value (judge_length text) a.0 a.1 in
    (leb-true (length text) max_text (test_holds (leb (length text) max_text) 1 short), plan_stop text a.2)

pub diagonal_back : (text : List ℕ) → (length text ≤ max_text) × DiagonalFirst text → read_text text ≡ refused 6
unfolding read_text judge_length
diagonal_back text h = rw (le-leb (length text) max_text h.0) (plan_stopped text h.1)
