-- A text that is refused is refused by a number that is not 0: 0 says that it was read.
--   Numbered                          a number that is not 0, or no refusal
--   numbered_bind numbered_require    kept by a reading step
--   numbered_text                     every text
use Rattle.std.specs.Prelude.{List, map, ℕ, zero, suc, ◌+◌, ◌*◌, ◌≤◌, get_or}
use Rattle.std.proofs.Common.{arith}
use Rattle.definitions.specs.Lists.{total}
use Rattle.definitions.specs.Judgement.{judge_bounds, judge_size, judge_vertices, judge_row, judge_blocks, judge_source}
use Rattle.definitions.specs.Fields.{field_bytes, field_at, length_at}
use Rattle.definitions.specs.Reading.{FieldReading, Read, refused, value, ◌>>=◌, require, read_field, read_fields, judge_line_end, read_line, line_bytes, read_rows, read_piece, piece_bytes, read_pieces, judge_end, question_of, question_size, judge_asked, read_question, read_body, read_plan, judge_length, read_text}

abbrev pub Numbered : {A : Type 0} → Read A → Type 0
Numbered (refused k) = 1 ≤ k
Numbered (value a) = Unit {0}

numbered_bind : {A B : Type 0} (r : Read A) (f : A → Read B) → Numbered r → ((a : A) → Numbered (f a)) → Numbered (◌>>=◌ r f)
numbered_bind (refused k) f h g = h
numbered_bind (value a) f h g = g a

-- whatever the cause
numbered_require : {B : Type 0} (k : ℕ) (f : Unit {0} → Read B) → Numbered (f tt) → Numbered (◌>>=◌ (require k) f)
numbered_require zero f g = g
numbered_require (suc k) f g = omega arith

-- ---- the parts of a text

numbered_field : (field : FieldReading) (text : List ℕ) (at : ℕ) → Numbered (read_field field text at)
unfolding read_field
numbered_field field text at = numbered_require (field text at).number _ tt

numbered_fields : (field : FieldReading) (text : List ℕ) (at k : ℕ) → Numbered (read_fields field text at k)
unfolding read_fields
numbered_fields field text at zero = tt
numbered_fields field text at (suc k) =
    numbered_bind (read_field field text at) _ (numbered_field field text at) (λ x. numbered_bind (read_fields field text (at + field_bytes) k) _ (numbered_fields field text (at + field_bytes) k) (λ xs. tt))

numbered_line : (field : FieldReading) (text : List ℕ) (at k : ℕ) → Numbered (read_line field text at k)
unfolding read_line
numbered_line field text at k = numbered_bind (read_fields field text at k) _ (numbered_fields field text at k) (λ xs. numbered_require (judge_line_end text (at + field_bytes * k)) _ tt)

numbered_rows : (text : List ℕ) (at m i k : ℕ) → Numbered (read_rows text at m i k)
unfolding read_rows
numbered_rows text at m i zero = tt
numbered_rows text at m i (suc k) =
    numbered_bind (read_line length_at text at m) _ (numbered_line length_at text at m) (λ row. numbered_require (judge_row i row) _
    (numbered_bind (read_rows text (at + line_bytes m) m (suc i) k) _ (numbered_rows text (at + line_bytes m) m (suc i) k) (λ rows. tt)))

numbered_piece : (text : List ℕ) (n at : ℕ) → Numbered (read_piece text n at)
unfolding read_piece
numbered_piece text n at =
    numbered_bind (read_field field_at text at) _ (numbered_field field_at text at) (λ m. numbered_require (judge_size m) _
    (numbered_bind (read_line field_at text (at + field_bytes) m) _ (numbered_line field_at text (at + field_bytes) m) (λ vertices. numbered_require (judge_vertices n vertices) _
    (numbered_bind (read_rows text (at + line_bytes (suc m)) m 0 m) _ (numbered_rows text (at + line_bytes (suc m)) m 0 m) (λ rows. numbered_require (judge_blocks (record { vertices = vertices; rows = rows })) _ tt)))))

numbered_pieces : (text : List ℕ) (n at k : ℕ) → Numbered (read_pieces text n at k)
unfolding read_pieces
numbered_pieces text n at zero = tt
numbered_pieces text n at (suc k) =
    numbered_bind (read_piece text n at) _ (numbered_piece text n at) (λ q. numbered_bind (read_pieces text n (at + piece_bytes q) k) _ (numbered_pieces text n (at + piece_bytes q) k) (λ qs. tt))

numbered_question : (text : List ℕ) (n at : ℕ) → Numbered (read_question text n at)
unfolding read_question
numbered_question text n at =
    numbered_bind (read_line field_at text at (question_size text at)) _ (numbered_line field_at text at (question_size text at)) (λ fields. let question = question_of fields in
    numbered_require (judge_source n question.source) _ (numbered_require (judge_asked n question.target) _
    (numbered_require (judge_end text (at + line_bytes (question_size text at))) _ tt)))

numbered_body : (text : List ℕ) (n p : ℕ) → Numbered (read_body text n p)
unfolding read_body
numbered_body text n p =
    numbered_require (judge_bounds n p) _
    (numbered_bind (read_pieces text n (line_bytes 2) p) _ (numbered_pieces text n (line_bytes 2) p) (λ qs. let at = line_bytes 2 + total (map piece_bytes qs) in
    numbered_bind (read_question text n at) _ (numbered_question text n at) (λ question. tt)))

numbered_plan : (text : List ℕ) → Numbered (read_plan text)
unfolding read_plan
numbered_plan text = numbered_bind (read_line field_at text 0 2) _ (numbered_line field_at text 0 2) (λ first. numbered_body text (get_or first 0 0) (get_or first 1 0))

pub numbered_text : (text : List ℕ) → Numbered (read_text text)
unfolding read_text
numbered_text text = numbered_require (judge_length text) _ (numbered_plan text)
