-- Document 01, "Text layout": from bytes to a refusal or a plan, judged from front to back. The file `Text` of proofs/ says what it comes to.
--   Read require                          refused by a number, or read
--   FieldReading read_fields read_line      a line's layout: its fields, of one kind, and one byte 10
--   read_rows read_piece read_pieces         pieces, judged as they are read
--   Question read_question                 the question line, of one field or two: document 02, request 4
--   Plan read_body read_plan read_text       the whole text, its length judged first
-- Each part is read at its place in the text: that of the part before it plus the bytes of that part.
use Rattle.std.specs.Prelude.{cond, List, [], ◌∷◌, map, ℕ, zero, suc, ◌+◌, ◌*◌, eqb, leb, get_or, length}
use Rattle.std.proofs.Math.Option.{Option, none, some}
use Rattle.definitions.specs.Limits.{max_text}
use Rattle.definitions.specs.Lists.{total}
use Rattle.definitions.specs.Network.{Piece, size_of}
use Rattle.definitions.specs.Judgement.{judge_bounds, judge_size, judge_vertices, judge_row, judge_blocks, judge_source, judge_target}
use Rattle.definitions.specs.Fields.{line_end, field_bytes, FieldAnswer, field_at, length_at}

-- refused by a number, or read
pub data Read (A : Type 0) : Type 0 where
  refused : ℕ → Read A
  value : A → Read A

-- what is read first is judged first: a refusal ends the reading
abbrev pub ◌>>=◌ : {A B : Type 0} → Read A → (A → Read B) → Read B
◌>>=◌ (refused k) f = refused k
◌>>=◌ (value a) f = f a

-- go on where the cause is 0
abbrev pub require : ℕ → Read (Unit {0})
require zero = value tt
require (suc k) = refused (suc k)

-- how the fields of a line are read, each at its place of the text: `field_at` or `length_at`
abbrev pub FieldReading : Type 0
FieldReading = List ℕ → ℕ → FieldAnswer

-- the number at a place, else 3
unfoldable pub read_field : FieldReading → List ℕ → ℕ → Read ℕ
read_field field text at = do
  _ ← require (field text at).number
  value (field text at).value

-- k fields, with nothing between them
unfoldable pub read_fields : FieldReading → List ℕ → ℕ → ℕ → Read (List ℕ)
read_fields field text at zero = value []
read_fields field text at (suc k) = do
  x ← read_field field text at
  xs ← read_fields field text (at + field_bytes) k
  value (x ∷ xs)

-- the byte at a place is a line's end; past the text's end there is none
unfoldable pub judge_line_end : List ℕ → ℕ → ℕ
judge_line_end text at = cond (eqb (get_or text at 0) line_end) 0 3

-- a line of k fields
unfoldable pub read_line : FieldReading → List ℕ → ℕ → ℕ → Read (List ℕ)
read_line field text at k = do
  xs ← read_fields field text at k
  _ ← require (judge_line_end text (at + field_bytes * k))
  value xs

-- the bytes of a line of k fields
abbrev pub line_bytes : ℕ → ℕ
line_bytes k = field_bytes * k + 1

-- k rows of m lengths, the first of them row i: of each line the layout is judged first, then its fields
unfoldable pub read_rows : List ℕ → ℕ → ℕ → ℕ → ℕ → Read (List (List ℕ))
read_rows text at m i zero = value []
read_rows text at m i (suc k) = do
  row ← read_line length_at text at m
  _ ← require (judge_row i row)
  rows ← read_rows text (at + line_bytes m) m (suc i) k
  value (row ∷ rows)

-- A piece: its line of m and the vertices, then m lines of m lengths. m is judged before the rest of its line, the blocks behind the last row.
unfoldable pub read_piece : List ℕ → ℕ → ℕ → Read Piece
read_piece text n at = do
  m ← read_field field_at text at
  _ ← require (judge_size m)
  vertices ← read_line field_at text (at + field_bytes) m
  _ ← require (judge_vertices n vertices)
  rows ← read_rows text (at + line_bytes (suc m)) m 0 m
  _ ← require (judge_blocks (record { vertices = vertices; rows = rows }))
  value (record { vertices = vertices; rows = rows })

-- the bytes of a piece's lines
unfoldable pub piece_bytes : Piece → ℕ
piece_bytes q = line_bytes (suc (size_of q)) + size_of q * line_bytes (size_of q)

-- k pieces
unfoldable pub read_pieces : List ℕ → ℕ → ℕ → ℕ → Read (List Piece)
read_pieces text n at zero = value []
read_pieces text n at (suc k) = do
  q ← read_piece text n at
  qs ← read_pieces text n (at + piece_bytes q) k
  value (q ∷ qs)

-- nothing stands after a place
unfoldable pub judge_end : List ℕ → ℕ → ℕ
judge_end text at = cond (eqb (length text) at) 0 3

-- what a question line asks for: from a source the labels of all vertices, or the route to a target
pub record Question : Type 0 where
  pub source : ℕ
  pub target : Option ℕ

-- what its fields say: the source, and the target if there are two
unfoldable pub target_in : List ℕ → Option ℕ
target_in [] = none
target_in (source ∷ []) = none
target_in (source ∷ target ∷ rest) = some target

unfoldable pub question_of : List ℕ → Question
question_of fields = record { source = get_or fields 0 0; target = target_in fields }

-- how many fields it has: one where a line's end follows the first, else two
unfoldable pub question_size : List ℕ → ℕ → ℕ
question_size text at = cond (eqb (judge_line_end text (at + field_bytes)) 0) 1 2

-- a target is judged where there is one
unfoldable pub judge_asked : ℕ → Option ℕ → ℕ
judge_asked n none = 0
judge_asked n (some target) = judge_target n target

-- Its layout, the source, the target. Bytes behind it are judged once both are.
unfoldable pub read_question : List ℕ → ℕ → ℕ → Read Question
read_question text n at = do
  fields ← read_line field_at text at (question_size text at)
  let question = question_of fields
  _ ← require (judge_source n question.source)
  _ ← require (judge_asked n question.target)
  _ ← require (judge_end text (at + line_bytes (question_size text at)))
  value question

-- what an accepted text says
pub record Plan : Type 0 where
  pub n : ℕ
  pub pieces : List Piece
  pub source : ℕ
  pub target : Option ℕ

-- the pieces and the question line, behind the line of n and p
unfoldable pub read_body : List ℕ → ℕ → ℕ → Read Plan
read_body text n p = do
  _ ← require (judge_bounds n p)
  qs ← read_pieces text n (line_bytes 2) p
  question ← read_question text n (line_bytes 2 + total (map piece_bytes qs))
  value (record { n = n; pieces = qs; source = question.source; target = question.target })

-- the text from front to back
unfoldable pub read_plan : List ℕ → Read Plan
read_plan text = do
  first ← read_line field_at text 0 2
  read_body text (get_or first 0 0) (get_or first 1 0)

-- more bytes than a text may have
unfoldable pub judge_length : List ℕ → ℕ
judge_length text = cond (leb (length text) max_text) 0 2

-- its length is judged before a byte of it is looked at
unfoldable pub read_text : List ℕ → Read Plan
read_text text = do
  _ ← require (judge_length text)
  read_plan text
