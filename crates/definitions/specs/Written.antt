-- Document 01, "Text layout": a plan as its lines, the plans that no cause turns away, and the texts whose first cause is a diagonal. The file `Text` of
-- proofs/ says which of them are read and which are refused by 6.
--   written_field written_length                      a number and a length as bytes
--   FieldWriting written_line written_piece           a line, of fields of one kind, and a piece
--   question_fields written                          the fields of a question line, and a plan as bytes
--   SoundPiece SoundPlan                            no cause turns it away, and each table is as large as its piece
--   StoppedPiece DiagonalFirst                      the first cause is a length on the diagonal that is not 0
use Rattle.std.specs.Prelude.{◌≡◌, true, cond, ◌≢◌, ℕ, ◌<◌, eqb, get_or, length}
use mathlib.Core.List.{List, [], ◌∷◌, ◌++◌, flat_map}
use Rattle.std.proofs.Math.Option.{Option, none, some}
use Rattle.definitions.specs.Limits.{no_path}
use Rattle.definitions.specs.Lists.{Every}
use Rattle.definitions.specs.Metres.{is_length}
use Rattle.definitions.specs.Network.{Piece, size_of}
use Rattle.definitions.specs.Judgement.{judge_bounds, judge_size, judge_vertices, judge_rows, judge_piece, judge_source}
use Rattle.definitions.specs.Fields.{line_end, dash, field_bytes, decimal, right_justified}
use Rattle.definitions.specs.Reading.{judge_asked, Plan}

-- ---- as bytes

-- six columns: blanks, then the decimal digits
unfoldable pub written_field : ℕ → List ℕ
written_field x = right_justified field_bytes (decimal x)

-- the same of a length: its digits, or `-` for no path
unfoldable pub written_length : ℕ → List ℕ
written_length l = right_justified field_bytes (cond (eqb l no_path) (dash ∷ []) (decimal l))

-- how the fields of a line are written: `written_field` or `written_length`
abbrev pub FieldWriting : Type 0
FieldWriting = ℕ → List ℕ

-- the fields, then a line's end
unfoldable pub written_line : FieldWriting → List ℕ → List ℕ
written_line field xs = flat_map field xs ++ (line_end ∷ [])

-- a line of the size and the vertices, then a line of lengths for each row
unfoldable pub written_piece : Piece → List ℕ
written_piece q = written_line written_field (size_of q ∷ q.vertices) ++ flat_map (written_line written_length) q.rows

-- the fields of a question line: the source, and the target if there is one
unfoldable pub question_fields : ℕ → Option ℕ → List ℕ
question_fields source none = source ∷ []
question_fields source (some target) = source ∷ target ∷ []

-- a line of n and the number of pieces, the pieces, the question line
unfoldable pub written : Plan → List ℕ
written plan =
    written_line written_field (plan.n ∷ length plan.pieces ∷ [])
    ++ (flat_map written_piece plan.pieces ++ written_line written_field (question_fields plan.source plan.target))

-- ---- sound

-- as many rows as vertices and as many lengths in each, and no cause turns the piece away, in a network of n vertices
pub record SoundPiece (n : ℕ) (q : Piece) : Type 0 where
  pub tall : length q.rows ≡ size_of q
  pub wide : Every (λ row. length row ≡ size_of q) q.rows
  pub judgement : judge_piece n (size_of q) q ≡ 0

-- no cause turns n, the number of pieces, a piece, the source or the target away
pub record SoundPlan (plan : Plan) : Type 0 where
  pub bounds : judge_bounds plan.n (length plan.pieces) ≡ 0
  pub each : Every (SoundPiece plan.n) plan.pieces
  pub source_in : judge_source plan.n plan.source ≡ 0
  pub target_in_lem : judge_asked plan.n plan.target ≡ 0

-- ---- stopped at a diagonal

-- A piece up to one of its rows, in a network of n vertices: q has its vertices and the rows in front of that row.
pub record StoppedPiece (n : ℕ) (q : Piece) (row : List ℕ) : Type 0 where
  -- no cause turns its size, its vertices or the rows in front away
  pub size : judge_size (size_of q) ≡ 0
  pub vertices_in : judge_vertices n q.vertices ≡ 0
  pub judged : judge_rows 0 q.rows ≡ 0
  -- it has more rows than these
  pub rows_left : length q.rows < size_of q
  -- each row has as many lengths as there are vertices, and those of the last are numbers up to the limit or no path
  pub wide : Every (λ r. length r ≡ size_of q) (row ∷ q.rows)
  pub short : Every (λ l. is_length l ≡ true) row
  -- its length on the diagonal is not 0: another number, or no path
  pub diagonal : get_or row (length q.rows) 0 ≢ 0

-- A text in which such a row is the first cause from front to back.
pub record DiagonalFirst (text : List ℕ) : Type 0 where
  pub n : ℕ
  pub p : ℕ
  -- the pieces in front, the piece of the row up to it, the row, and bytes of any kind
  pub before : List Piece
  pub piece : Piece
  pub row : List ℕ
  pub behind : List ℕ
  pub lines : text ≡ written_line written_field (n ∷ p ∷ []) ++ (flat_map written_piece before ++ (written_piece piece ++ (written_line written_length row ++ behind)))
  -- no cause turns n, p or a piece in front away, and the network has more pieces than these
  pub bounds : judge_bounds n p ≡ 0
  pub each : Every (SoundPiece n) before
  pub pieces_left : length before < p
  pub stopped : StoppedPiece n piece row
