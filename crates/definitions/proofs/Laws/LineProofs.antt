-- From a text that was read to its lines, and to a plan that no cause turns away: part of `accepted_exactly` in the file Text.
--   Stands                    bytes from a place of the text on, and the rest of the text behind them
--   field_at_lem .. line_written  fields and lines that were read stand there as they are written
--   rows_read .. pieces_read  so do rows and pieces, and they have been judged
--   question_size_lem question_read   so does the question line, of one field or two, with nothing behind it
--   body_read                 so does all that follows the first line
--   text_read                 the whole text
use Rattle.std.specs.Prelude.{◌≡◌, refl, eqb, leb, get_or, length, drop}
use Rattle.std.proofs.Math.Path.{sym}
use Rattle.std.proofs.Common.{ap, ◌∙◌, subst, ⊎_elim, leb-true, eqb-true, length-drop, take-append-drop, drop_of_length-le, length-take-le, drop-cons, drop-drop}
use mathlib.Core.List.{List, [], ◌∷◌, ◌++◌, map, flat_map, append_assoc, append-nil}
use Prim.Native.Nat.{ℕ, zero, suc, ◌+◌, ◌*◌, ◌≤◌, ◌<◌}
use native.Mathlib.Omega.{arith}
use Rattle.std.proofs.Math.ListN.{take, get_or-eq_default}
use Rattle.logic.specs.Tests.{Truth, holds, fails, truth, split_at}
use Rattle.definitions.specs.Lists.{Every, total, first_cause}
use Rattle.definitions.specs.Network.{Piece, size_of}
use Rattle.definitions.specs.Judgement.{judge_bounds, judge_size, judge_vertices, judge_row, judge_rows, judge_blocks, judge_piece, judge_source}
use Rattle.definitions.specs.Fields.{line_end, field_bytes, FieldAnswer, a_field, no_field, six_at, field_at, length_at}
use Rattle.definitions.specs.Reading.{value, require, read_field, read_fields, judge_line_end, read_line, line_bytes, read_rows, read_piece, piece_bytes, read_pieces, judge_end, Question, target_in, question_of, question_size, judge_asked, read_question, Plan, read_body, read_plan}
use Rattle.definitions.specs.Written.{FieldWriting, written_field, written_length, written_line, written_piece, question_fields, written, SoundPiece, SoundPlan}
use Rattle.definitions.proofs.Laws.ReadLaws.{value_same, bind_value, require_value, field_value, line_length}
use Rattle.definitions.proofs.Laws.FieldKinds.{Mirrors, plain_fields, length_fields}

-- ---- what was read from a place on

-- the text from a place on: so many bytes, which are these, and then the text from behind them on
abbrev pub Stands : List ℕ → ℕ → ℕ → List ℕ → Type 0
Stands text at size bytes = drop at text ≡ bytes ++ drop (at + size) text

-- nothing; one part behind the other
stands_none : (text : List ℕ) (at : ℕ) → Stands text at 0 []
stands_none text at = let z : at + 0 ≡ at = omega arith in rw z

pub stands_both : (text : List ℕ) (at a b : ℕ) (xs ys : List ℕ) → Stands text at a xs → Stands text (at + a) b ys → Stands text at (a + b) (xs ++ ys)
stands_both text at a b xs ys h k =
    let z : at + a + b ≡ at + (a + b) = omega arith in
    h ∙ rw (k, z) (sym (append_assoc xs ys (drop (at + (a + b)) text)))

-- fields of one kind
module _ {says : List ℕ → FieldAnswer} {writes : FieldWriting} {Fits : ℕ → Type 0} (kind : Mirrors says writes Fits) where
  field_at_lem : (text : List ℕ) (at x : ℕ) → six_at says text at ≡ a_field x → Stands text at field_bytes (writes x) × Fits x
  unfolding six_at
  field_at_lem text at x e = go (truth (leb (at + field_bytes) (length text)))
    where
      six : List ℕ
      six = take field_bytes (drop at text)

      go : Truth (leb (at + field_bytes) (length text)) → Stands text at field_bytes (writes x) × Fits x
      go (holds t) =
          let inside = leb-true (at + field_bytes) (length text) t in
          let long : length six ≡ field_bytes = length-take-le field_bytes (drop at text) (simp length-drop (omega arith)) in
          let is = kind.written six x long (simp t at e) in
          (rw (← is.0, ← drop-drop field_bytes at text) (sym (take-append-drop field_bytes (drop at text))), is.1)
      go (fails t) =
          let a : no_field ≡ a_field x = simp t at e in
          let z : ◌≡◌ {A = ℕ} 3 0 = ap (λ (f : FieldAnswer). f.number) a in
          absurd (omega arith)

  read_field_written : (text : List ℕ) (at x : ℕ) → read_field (six_at says) text at ≡ value x → Stands text at field_bytes (writes x) × Fits x
  read_field_written text at x e = field_at_lem text at x (field_value (six_at says) text at x e)

  fields_written : (text : List ℕ) (at k : ℕ) (xs : List ℕ) → read_fields (six_at says) text at k ≡ value xs → Stands text at (field_bytes * k) (flat_map writes xs) × Every Fits xs
  unfolding read_fields flat_map
  fields_written text at zero xs e = rw (← value_same [] xs e) (stands_none text at, tt)
  fields_written text at (suc k) xs e =
      let a = bind_value (read_field (six_at says) text at) _ xs e in
      let b = bind_value (read_fields (six_at says) text (at + field_bytes) k) _ xs a.2 in
      let x = a.0 in
      let rest = b.0 in
      let one = read_field_written text at x a.1 in
      let more = fields_written text (at + field_bytes) k rest b.1 in
      let z : field_bytes + field_bytes * k ≡ field_bytes * suc k = omega arith in
      rw (← value_same (x ∷ rest) xs b.2, ← z) (stands_both text at field_bytes (field_bytes * k) (writes x) (flat_map writes rest) one.0 more.0, (one.1, more.1))

end_written : (text : List ℕ) (at : ℕ) → judge_line_end text at ≡ 0 → Stands text at 1 (line_end ∷ [])
unfolding judge_line_end
end_written text at e = go (truth (eqb (get_or text at 0) line_end))
  where
    go : Truth (eqb (get_or text at 0) line_end) → Stands text at 1 (line_end ∷ [])
    go (holds t) =
        let is : get_or text at 0 ≡ line_end = eqb-true (get_or text at 0) line_end t in
        let inside : at < length text = ⊎_elim (λ (h : at < length text). h) (λ (h : length text ≤ at). absurd (omega (arith, get_or-eq_default text 0 {n = at} h))) (split_at at (length text)) in
        let z : suc at ≡ at + 1 = omega arith in
        drop-cons text at 0 inside ∙ rw (is, z)
    go (fails t) = let bad : ◌≡◌ {A = ℕ} 3 0 = simp t at e in absurd (omega arith)

-- a line of them
module _ {says : List ℕ → FieldAnswer} {writes : FieldWriting} {Fits : ℕ → Type 0} (kind : Mirrors says writes Fits) where
  pub line_written : (text : List ℕ) (at k : ℕ) (xs : List ℕ) → read_line (six_at says) text at k ≡ value xs → Stands text at (line_bytes k) (written_line writes xs) × Every Fits xs
  unfolding read_line written_line
  line_written text at k xs e =
      let a = bind_value (read_fields (six_at says) text at k) _ xs e in
      let b = bind_value (require (judge_line_end text (at + field_bytes * k))) _ xs a.2 in
      let end = require_value (judge_line_end text (at + field_bytes * k)) b.0 b.1 in
      let fields = fields_written kind text at k a.0 a.1 in
      rw (← value_same a.0 xs b.2) (stands_both text at (field_bytes * k) 1 (flat_map writes a.0) (line_end ∷ []) fields.0 (end_written text (at + field_bytes * k) end), fields.1)

-- ---- rows

-- k rows of m lengths, the first of them row i: they stand there, and each was judged
pub record RowsRead (text : List ℕ) (at m i k : ℕ) (rows : List (List ℕ)) : Type 0 where
  pub stands : Stands text at (k * line_bytes m) (flat_map (written_line written_length) rows)
  pub count : length rows ≡ k
  pub wide : Every (λ row. length row ≡ m) rows
  pub judged : judge_rows i rows ≡ 0

no_rows : (text : List ℕ) (at m i : ℕ) → RowsRead text at m i 0 []
unfolding judge_rows flat_map
no_rows text at m i = record { stands = let z : 0 * line_bytes m ≡ 0 = omega arith in rw z (stands_none text at); count = refl; wide = tt; judged = refl }

row_more : (text : List ℕ) (at m i k : ℕ) (row : List ℕ) (rows : List (List ℕ)) → Stands text at (line_bytes m) (written_line written_length row) → length row ≡ m → judge_row i row ≡ 0
    → RowsRead text (at + line_bytes m) m (suc i) k rows → RowsRead text at m i (suc k) (row ∷ rows)
unfolding judge_rows first_cause flat_map
row_more text at m i k row rows line long ok r = record {
  stands =
      let z : line_bytes m + k * line_bytes m ≡ suc k * line_bytes m = omega arith in
      rw (← z) (stands_both text at (line_bytes m) (k * line_bytes m) (written_line written_length row) (flat_map (written_line written_length) rows) line r.stands);
  count = ap suc r.count;
  wide = (long, r.wide);
  judged = rw (ok, r.judged);
}

pub rows_read : (text : List ℕ) (at m i k : ℕ) (rows : List (List ℕ)) → read_rows text at m i k ≡ value rows → RowsRead text at m i k rows
unfolding read_rows
rows_read text at m i zero rows e = subst (RowsRead text at m i 0) (value_same [] rows e) (no_rows text at m i)
rows_read text at m i (suc k) rows e =
    let a = bind_value (read_line length_at text at m) _ rows e in
    let row = a.0 in
    let b = bind_value (require (judge_row i row)) _ rows a.2 in
    let c = bind_value (read_rows text (at + line_bytes m) m (suc i) k) _ rows b.2 in
    subst (RowsRead text at m i (suc k)) (value_same (row ∷ c.0) rows c.2)
    (row_more text at m i k row c.0
    (line_written length_fields text at m row a.1).0
    (line_length length_at text at m row a.1)
    (require_value (judge_row i row) b.0 b.1)
    (rows_read text (at + line_bytes m) m (suc i) k c.0 c.1))

-- ---- a piece

record PieceRead (text : List ℕ) (n at : ℕ) (q : Piece) : Type 0 where
  stands : Stands text at (piece_bytes q) (written_piece q)
  sound : SoundPiece n q

-- the size is the first field of the line of the vertices
sized_line : (m : ℕ) (xs : List ℕ) → written_field m ++ written_line written_field xs ≡ written_line written_field (m ∷ xs)
unfolding written_line flat_map
sized_line m xs = sym (append_assoc (written_field m) (flat_map written_field xs) (line_end ∷ []))

pub sized_written : (text : List ℕ) (at m : ℕ) (vertices : List ℕ) → read_field field_at text at ≡ value m → read_line field_at text (at + field_bytes) m ≡ value vertices
    → Stands text at (line_bytes (suc m)) (written_line written_field (m ∷ vertices))
sized_written text at m vertices size line =
    let z : field_bytes + line_bytes m ≡ line_bytes (suc m) = omega arith in
    let first = read_field_written plain_fields text at m size in
    let rest = line_written plain_fields text (at + field_bytes) m vertices line in
    rw (z, sized_line m vertices) at (stands_both text at field_bytes (line_bytes m) (written_field m) (written_line written_field vertices) first.0 rest.0)

module _ (text : List ℕ) (n at m : ℕ) (vertices : List ℕ) (rows : List (List ℕ)) where
  abbrev made : Piece
  made = record { vertices = vertices; rows = rows }

  piece_made : length vertices ≡ m → Stands text at (line_bytes (suc m)) (written_line written_field (m ∷ vertices))
      → judge_size m ≡ 0 → judge_vertices n vertices ≡ 0 → RowsRead text (at + line_bytes (suc m)) m 0 m rows → judge_blocks made ≡ 0 → PieceRead text n at made
  unfolding judge_piece first_cause size_of piece_bytes written_piece
  piece_made long first size_in_lem vertices_in r blocks =
      record {
        stands = rw long (stands_both text at (line_bytes (suc m)) (m * line_bytes m) (written_line written_field (m ∷ vertices)) (flat_map (written_line written_length) rows) first r.stands);
        sound = record { tall = r.count ∙ sym long; wide = rw long r.wide; judgement = rw (long, size_in_lem, vertices_in, r.judged, blocks) };
      }

piece_read : (text : List ℕ) (n at : ℕ) (q : Piece) → read_piece text n at ≡ value q → PieceRead text n at q
unfolding read_piece
piece_read text n at q e =
    let a = bind_value (read_field field_at text at) _ q e in
    let m = a.0 in
    let b = bind_value (require (judge_size m)) _ q a.2 in
    let c = bind_value (read_line field_at text (at + field_bytes) m) _ q b.2 in
    let vertices = c.0 in
    let d = bind_value (require (judge_vertices n vertices)) _ q c.2 in
    let f = bind_value (read_rows text (at + line_bytes (suc m)) m 0 m) _ q d.2 in
    let rows = f.0 in
    let g = bind_value (require (judge_blocks (record { vertices = vertices; rows = rows }))) _ q f.2 in
    subst (PieceRead text n at) (value_same (record { vertices = vertices; rows = rows }) q g.2)
    (piece_made text n at m vertices rows
    (line_length field_at text (at + field_bytes) m vertices c.1)
    (sized_written text at m vertices a.1 c.1)
    (require_value (judge_size m) b.0 b.1)
    (require_value (judge_vertices n vertices) d.0 d.1)
    (rows_read text (at + line_bytes (suc m)) m 0 m rows f.1)
    (require_value (judge_blocks (record { vertices = vertices; rows = rows })) g.0 g.1))

-- ---- pieces

pub record PiecesRead (text : List ℕ) (n at p : ℕ) (qs : List Piece) : Type 0 where
  pub stands : Stands text at (total (map piece_bytes qs)) (flat_map written_piece qs)
  pub count : length qs ≡ p
  pub each : Every (SoundPiece n) qs

no_pieces : (text : List ℕ) (n at : ℕ) → PiecesRead text n at 0 []
unfolding total flat_map
no_pieces text n at = record { stands = stands_none text at; count = refl; each = tt }

piece_more : (text : List ℕ) (n at p : ℕ) (q : Piece) (qs : List Piece) → PieceRead text n at q → PiecesRead text n (at + piece_bytes q) p qs → PiecesRead text n at (suc p) (q ∷ qs)
unfolding total flat_map
piece_more text n at p q qs one r = record {
  stands = stands_both text at (piece_bytes q) (total (map piece_bytes qs)) (written_piece q) (flat_map written_piece qs) one.stands r.stands;
  count = ap suc r.count;
  each = (one.sound, r.each);
}

pub pieces_read : (text : List ℕ) (n at p : ℕ) (qs : List Piece) → read_pieces text n at p ≡ value qs → PiecesRead text n at p qs
unfolding read_pieces
pieces_read text n at zero qs e = subst (PiecesRead text n at 0) (value_same [] qs e) (no_pieces text n at)
pieces_read text n at (suc p) qs e =
    let a = bind_value (read_piece text n at) _ qs e in
    let q = a.0 in
    let b = bind_value (read_pieces text n (at + piece_bytes q) p) _ qs a.2 in
    subst (PiecesRead text n at (suc p)) (value_same (q ∷ b.0) qs b.2)
    (piece_more text n at p q b.0 (piece_read text n at q a.1) (pieces_read text n (at + piece_bytes q) p b.0 b.1))

-- ---- the question line

at_end : (text : List ℕ) (at : ℕ) → judge_end text at ≡ 0 → drop at text ≡ []
unfolding judge_end
at_end text at e = go (truth (eqb (length text) at))
  where
    go : Truth (eqb (length text) at) → drop at text ≡ []
    go (holds t) = drop_of_length-le text {i = at} (omega (arith, eqb-true (length text) at t))
    go (fails t) = let bad : ◌≡◌ {A = ℕ} 3 0 = simp t at e in absurd (omega arith)

-- one field or two
pub question_size_lem : (text : List ℕ) (at : ℕ) → (1 ≤ question_size text at) × (question_size text at ≤ 2)
unfolding question_size
question_size_lem text at = go (truth (eqb (judge_line_end text (at + field_bytes)) 0))
  where
    go : Truth (eqb (judge_line_end text (at + field_bytes)) 0) → (1 ≤ question_size text at) × (question_size text at ≤ 2)
    go (holds t) = rw t (omega arith, omega arith)
    go (fails t) = rw t (omega arith, omega arith)

-- one field, or two, are those of the question that they ask
fields_asked : (xs : List ℕ) → 1 ≤ length xs → length xs ≤ 2 → question_fields (question_of xs).source (question_of xs).target ≡ xs
unfolding question_fields question_of target_in
fields_asked [] l u = absurd (omega arith)
fields_asked (x ∷ []) l u = refl
fields_asked (x ∷ y ∷ []) l u = refl
fields_asked (x ∷ y ∷ z ∷ zs) l u = absurd (omega arith)

-- it is the last line, and its source and its target have been judged
pub record QuestionRead (text : List ℕ) (n at : ℕ) (q : Question) : Type 0 where
  pub line : drop at text ≡ written_line written_field (question_fields q.source q.target)
  pub source_in : judge_source n q.source ≡ 0
  pub target_in_lem : judge_asked n q.target ≡ 0

pub question_read : (text : List ℕ) (n at : ℕ) (q : Question) → read_question text n at ≡ value q → QuestionRead text n at q
unfolding read_question
question_read text n at q e =
    let k = question_size text at in
    let a = bind_value (read_line field_at text at k) _ q e in
    let fields = a.0 in
    let asked = question_of fields in
    let b = bind_value (require (judge_source n asked.source)) _ q a.2 in
    let c = bind_value (require (judge_asked n asked.target)) _ q b.2 in
    let d = bind_value (require (judge_end text (at + line_bytes k))) _ q c.2 in
    let long : length fields ≡ k = line_length field_at text at k fields a.1 in
    let size = question_size_lem text at in
    let same : question_fields asked.source asked.target ≡ fields = fields_asked fields (omega (arith, size.0)) (omega (arith, size.1)) in
    let line : drop at text ≡ written_line written_field fields ++ drop (at + line_bytes k) text = (line_written plain_fields text at k fields a.1).0 in
    let end : drop (at + line_bytes k) text ≡ [] = at_end text (at + line_bytes k) (require_value (judge_end text (at + line_bytes k)) d.0 d.1) in
    subst (QuestionRead text n at) (value_same asked q d.2) (record {
      line = line ∙ rw end (append-nil (written_line written_field fields) ∙ ap (written_line written_field) (sym same));
      source_in = require_value (judge_source n asked.source) b.0 b.1;
      target_in_lem = require_value (judge_asked n asked.target) c.0 c.1;
    })

-- ---- the whole text

pub two_numbers : (xs : List ℕ) → length xs ≡ 2 → xs ≡ get_or xs 0 0 ∷ get_or xs 1 0 ∷ []
two_numbers [] h = absurd (omega arith)
two_numbers (x ∷ []) h = absurd (omega arith)
two_numbers (x ∷ y ∷ []) h = refl
two_numbers (x ∷ y ∷ z ∷ zs) h = absurd (omega arith)

-- behind the line of n and p
record BodyRead (text : List ℕ) (n p : ℕ) (plan : Plan) : Type 0 where
  n_is : plan.n ≡ n
  p_is : length plan.pieces ≡ p
  rest : drop (line_bytes 2) text ≡ flat_map written_piece plan.pieces ++ written_line written_field (question_fields plan.source plan.target)
  sound : SoundPlan plan

body_read : (text : List ℕ) (n p : ℕ) (plan : Plan) → read_body text n p ≡ value plan → BodyRead text n p plan
unfolding read_body
body_read text n p plan e =
    let a = bind_value (require (judge_bounds n p)) _ plan e in
    let b = bind_value (read_pieces text n (line_bytes 2) p) _ plan a.2 in
    let qs = b.0 in
    let at = line_bytes 2 + total (map piece_bytes qs) in
    let c = bind_value (read_question text n at) _ plan b.2 in
    let question = c.0 in
    let r = pieces_read text n (line_bytes 2) p qs b.1 in
    let asked = question_read text n at question c.1 in
    let same : record { n = n; pieces = qs; source = question.source; target = question.target } ≡ plan = value_same _ plan c.2 in
    subst (BodyRead text n p) same (record {
      n_is = refl;
      p_is = r.count;
      rest = r.stands ∙ ap (λ (l : List ℕ). flat_map written_piece qs ++ l) asked.line;
      sound = record {
        bounds = subst (λ (k : ℕ). judge_bounds n k ≡ 0) (sym r.count) (require_value (judge_bounds n p) a.0 a.1);
        each = r.each;
        source_in = asked.source_in;
        target_in_lem = asked.target_in_lem;
      };
    })

whole : (text first : List ℕ) (n p : ℕ) (plan : Plan) → first ≡ n ∷ p ∷ [] → Stands text 0 (line_bytes 2) (written_line written_field first) → BodyRead text n p plan → text ≡ written plan
unfolding written
whole text first n p plan two line body = line ∙ rw (two, body.rest, body.n_is, body.p_is)

pub text_read : (text : List ℕ) (plan : Plan) → read_plan text ≡ value plan → SoundPlan plan × (text ≡ written plan)
unfolding read_plan
text_read text plan e =
    let a = bind_value (read_line field_at text 0 2) _ plan e in
    let first = a.0 in
    let n = get_or first 0 0 in
    let p = get_or first 1 0 in
    let body = body_read text n p plan a.2 in
    let two : first ≡ n ∷ p ∷ [] = two_numbers first (line_length field_at text 0 2 first a.1) in
    (body.sound, whole text first n p plan two (line_written plain_fields text 0 2 first a.1).0 body)
