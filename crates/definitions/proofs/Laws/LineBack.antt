-- From a plan that no cause turns away to its text, which is read back: part of `accepted_exactly` in the file Text.
--   Small vertices_small            numbers that have room in their fields
--   behind byte_here                the text behind bytes that stand at a place, and the first of them
--   fields_back line_back           fields and a line that stand at a place are read there
--   rows_back piece_back pieces_back   so are rows and pieces
--   question_back                   so is the question line, with nothing behind it
--   body_back text_back             so is all that follows the first line, and the whole text
use Rattle.std.specs.Prelude.{◌≡◌}
use Rattle.std.proofs.Math.Path.{refl, sym, ap}
use Rattle.std.proofs.Common.{◌∙◌, length-drop, drop_at, drop-drop, get_or-drop}
use mathlib.Core.List.{List, [], ◌∷◌, ◌++◌, map, flat_map, append_assoc, append-nil}
use Rattle.std.proofs.Math.Option.{Option, none, some}
use Prim.Native.Nat.{ℕ, suc, ◌+◌, ◌-◌, ◌*◌, ◌≤◌, ◌<◌}
use native.Mathlib.Omega.{arith}
use borrow.Author.Tests.{le-leb, eq-eqb, ne_eqb}
use Rattle.std.proofs.Math.ListN.{get_or, length, drop, length-append}
use Rattle.std.proofs.Math.Seq.{take_at}
use Rattle.definitions.specs.Lists.{Every, total}
use Rattle.definitions.specs.Network.{Piece, size_of}
use Rattle.definitions.specs.Judgement.{judge_size, judge_vertices, judge_row, judge_rows, judge_blocks, judge_piece, judge_source}
use Rattle.definitions.specs.Fields.{line_end, field_bytes, FieldAnswer, a_field, six_at, field_at}
use Rattle.definitions.specs.Reading.{value, read_field, read_fields, judge_line_end, read_line, line_bytes, read_rows, read_piece, piece_bytes, read_pieces, judge_end, target_in, question_of, question_size, judge_asked, read_question, Plan, read_body, read_plan}
use Rattle.definitions.proofs.Laws.Members.{every_imp}
use Rattle.definitions.proofs.Laws.CauseLaws.{no_cause, size_in_lem, bounds_in, source_in, target_in_lem, vertices_in, Short, rows_short}
use Rattle.definitions.specs.Written.{FieldWriting, written_field, written_length, written_line, written_piece, question_fields, written, SoundPiece, SoundPlan}
use Rattle.definitions.proofs.Laws.FieldKinds.{Mirrors, plain_fields, length_fields}
use Rattle.definitions.specs.Laws.FieldBound.{max_field}
use Rattle.definitions.proofs.Laws.FieldBack.{length_written, field_begins}

-- numbers that have room in their fields
abbrev Small : List ℕ → Type 0
Small xs = Every (λ x. x ≤ max_field) xs

pub vertices_small : (n : ℕ) (vertices : List ℕ) → n ≤ max_field → judge_vertices n vertices ≡ 0 → Small vertices
vertices_small n vertices few j = every_imp (λ v. (1 ≤ v) × (v ≤ n)) (λ v. v ≤ max_field) vertices (λ v k. omega arith) (vertices_in n vertices j)

-- the text behind bytes that stand at a place
behind : (text : List ℕ) (at k : ℕ) (bytes rest : List ℕ) → length bytes ≡ k → drop at text ≡ bytes ++ rest → drop (at + k) text ≡ rest
behind text at k bytes rest l h = sym (drop-drop k at text) ∙ rw h (drop_at bytes rest k l)

-- the first of them
byte_here : (text : List ℕ) (at : ℕ) (bytes : List ℕ) → drop at text ≡ bytes → get_or text at 0 ≡ get_or bytes 0 0
byte_here text at bytes h =
    let z : at + 0 ≡ at = omega arith in
    rw z at (sym (get_or-drop at text 0 0)) ∙ ap (λ (b : List ℕ). get_or b 0 0) h

-- ---- fields of one kind

module _ {says : List ℕ → FieldAnswer} {writes : FieldWriting} {Fits : ℕ → Type 0} (kind : Mirrors says writes Fits) where
  field_here : (text : List ℕ) (at x : ℕ) (rest : List ℕ) → Fits x → drop at text ≡ writes x ++ rest → six_at says text at ≡ a_field x
  unfolding six_at
  field_here text at x rest s h =
      let six = kind.long x s in
      let long : length text - at ≡ field_bytes + length rest = sym (length-drop at text) ∙ ap length h ∙ length-append (writes x) rest ∙ rw six in
      rw (le-leb (at + field_bytes) (length text) (omega arith), h, take_at (writes x) rest field_bytes six) (kind.back x s)

  read_back : (text : List ℕ) (at x : ℕ) (rest : List ℕ) → Fits x → drop at text ≡ writes x ++ rest → read_field (six_at says) text at ≡ value x
  unfolding read_field
  read_back text at x rest s h = rw (field_here text at x rest s h)

  fields_back : (text : List ℕ) (at : ℕ) (xs rest : List ℕ) → Every Fits xs → drop at text ≡ flat_map writes xs ++ rest
      → (read_fields (six_at says) text at (length xs) ≡ value xs) × (drop (at + field_bytes * length xs) text ≡ rest)
  unfolding read_fields flat_map
  fields_back text at [] rest s h = let z : at + field_bytes * 0 ≡ at = omega arith in (refl, rw z h)
  fields_back text at (x ∷ xs) rest s h =
      let here : drop at text ≡ writes x ++ (flat_map writes xs ++ rest) = h ∙ append_assoc (writes x) (flat_map writes xs) rest in
      let next = behind text at field_bytes (writes x) (flat_map writes xs ++ rest) (kind.long x s.0) here in
      let more = fields_back text (at + field_bytes) xs rest s.1 next in
      let z : at + field_bytes * suc (length xs) ≡ at + field_bytes + field_bytes * length xs = omega arith in
      (rw (read_back text at x (flat_map writes xs ++ rest) s.0 here, more.0), rw z more.1)

  pub line_back : (text : List ℕ) (at : ℕ) (xs rest : List ℕ) (k : ℕ) → length xs ≡ k → Every Fits xs → drop at text ≡ written_line writes xs ++ rest
      → (read_line (six_at says) text at k ≡ value xs) × (drop (at + line_bytes k) text ≡ rest)
  unfolding read_line written_line judge_line_end
  line_back text at xs rest k l s h =
      let here : drop at text ≡ flat_map writes xs ++ (line_end ∷ rest) = h ∙ append_assoc (flat_map writes xs) (line_end ∷ []) rest in
      let f = fields_back text at xs (line_end ∷ rest) s here in
      let end = at + field_bytes * k in
      let last : drop end text ≡ line_end ∷ rest = rw l at f.1 in
      let byte : get_or text end 0 ≡ line_end = byte_here text end (line_end ∷ rest) last in
      let y : at + line_bytes k ≡ end + 1 = omega arith in
      let first : read_fields (six_at says) text at k ≡ value xs = rw l at f.0 in
      (rw (first, eq-eqb _ _ byte), rw y (behind text end 1 (line_end ∷ []) rest refl last))

-- ---- rows

pub rows_back : (text : List ℕ) (at m i : ℕ) (rows : List (List ℕ)) (rest : List ℕ) → Every (λ row. length row ≡ m) rows → Every Short rows → judge_rows i rows ≡ 0
    → drop at text ≡ flat_map (written_line written_length) rows ++ rest
    → (read_rows text at m i (length rows) ≡ value rows) × (drop (at + length rows * line_bytes m) text ≡ rest)
unfolding read_rows flat_map judge_rows
rows_back text at m i [] rest w s j h = let z : at + 0 * line_bytes m ≡ at = omega arith in (refl, rw z h)
rows_back text at m i (row ∷ rows) rest w s j h =
    let causes = no_cause (judge_row i row ∷ judge_rows (suc i) rows ∷ []) j in
    let here : drop at text ≡ written_line written_length row ++ (flat_map (written_line written_length) rows ++ rest) = h ∙ append_assoc (written_line written_length row) (flat_map (written_line written_length) rows) rest in
    let line = line_back length_fields text at row (flat_map (written_line written_length) rows ++ rest) m w.0 s.0 here in
    let more = rows_back text (at + line_bytes m) m (suc i) rows rest w.1 s.1 causes.1.0 line.1 in
    let z : at + suc (length rows) * line_bytes m ≡ at + line_bytes m + length rows * line_bytes m = omega arith in
    (rw (line.0, causes.0, more.0), rw z more.1)

-- ---- a piece

-- the size and the line of the vertices
pub sized_back : (text : List ℕ) (at m : ℕ) (vertices rest : List ℕ) → m ≤ max_field → Small vertices → length vertices ≡ m → drop at text ≡ written_line written_field (m ∷ vertices) ++ rest
    → (read_field field_at text at ≡ value m) × (read_line field_at text (at + field_bytes) m ≡ value vertices) × (drop (at + line_bytes (suc m)) text ≡ rest)
unfolding written_line flat_map
sized_back text at m vertices rest s t l h =
    let here : drop at text ≡ written_field m ++ (written_line written_field vertices ++ rest) = h ∙ simp append_assoc in
    let next = behind text at field_bytes (written_field m) (written_line written_field vertices ++ rest) (length_written m s) here in
    let line = line_back plain_fields text (at + field_bytes) vertices rest m l t next in
    let z : at + line_bytes (suc m) ≡ at + field_bytes + line_bytes m = omega arith in
    (read_back plain_fields text at m (written_line written_field vertices ++ rest) s here, line.0, rw z line.1)

piece_back : (text : List ℕ) (n at : ℕ) (q : Piece) (rest : List ℕ) → n ≤ max_field → SoundPiece n q → drop at text ≡ written_piece q ++ rest
    → (read_piece text n at ≡ value q) × (drop (at + piece_bytes q) text ≡ rest)
unfolding read_piece written_piece piece_bytes judge_piece size_of
piece_back text n at q rest few s h =
    let m = length q.vertices in
    let causes = no_cause (judge_size m ∷ judge_vertices n q.vertices ∷ judge_rows 0 q.rows ∷ judge_blocks q ∷ []) s.judgement in
    let size = size_in_lem m causes.0 in
    let here : drop at text ≡ written_line written_field (m ∷ q.vertices) ++ (flat_map (written_line written_length) q.rows ++ rest) = h ∙ append_assoc (written_line written_field (m ∷ q.vertices)) (flat_map (written_line written_length) q.rows) rest in
    let line = sized_back text at m q.vertices (flat_map (written_line written_length) q.rows ++ rest) (omega (arith, size.1)) (vertices_small n q.vertices few causes.1.0) refl here in
    let table = rows_back text (at + line_bytes (suc m)) m 0 q.rows rest s.wide (rows_short 0 q.rows causes.1.1.0) causes.1.1.0 line.2 in
    let rows : read_rows text (at + line_bytes (suc m)) m 0 m ≡ value q.rows = rw s.tall at table.0 in
    let end : drop (at + line_bytes (suc m) + m * line_bytes m) text ≡ rest = rw s.tall at table.1 in
    let z : at + (line_bytes (suc m) + m * line_bytes m) ≡ at + line_bytes (suc m) + m * line_bytes m = omega arith in
    (rw (line.0, causes.0, line.1, causes.1.0, rows, causes.1.1.1.0), rw z end)

pub pieces_back : (text : List ℕ) (n at : ℕ) (qs : List Piece) (rest : List ℕ) → n ≤ max_field → Every (SoundPiece n) qs → drop at text ≡ flat_map written_piece qs ++ rest
    → (read_pieces text n at (length qs) ≡ value qs) × (drop (at + total (map piece_bytes qs)) text ≡ rest)
unfolding read_pieces flat_map total
pieces_back text n at [] rest few s h = let z : at + 0 ≡ at = omega arith in (refl, rw z h)
pieces_back text n at (q ∷ qs) rest few s h =
    let here : drop at text ≡ written_piece q ++ (flat_map written_piece qs ++ rest) = h ∙ append_assoc (written_piece q) (flat_map written_piece qs) rest in
    let one = piece_back text n at q (flat_map written_piece qs ++ rest) few s.0 here in
    let more = pieces_back text n (at + piece_bytes q) qs rest few s.1 one.1 in
    let z : at + (piece_bytes q + total (map piece_bytes qs)) ≡ at + piece_bytes q + total (map piece_bytes qs) = omega arith in
    (rw (one.0, more.0), rw z more.1)

-- ---- the question line

-- behind the source stands a line's end, or a field, which begins with another byte
size_back : (text : List ℕ) (at source : ℕ) (target : Option ℕ) → Small (question_fields source target) → drop at text ≡ written_line written_field (question_fields source target)
    → question_size text at ≡ length (question_fields source target)
unfolding question_fields question_size judge_line_end written_line flat_map
size_back text at source none s h =
    let next = behind text at field_bytes (written_field source) (line_end ∷ []) (length_written source s.0) (h ∙ simp append_assoc) in
    let byte : get_or text (at + field_bytes) 0 ≡ line_end = byte_here text (at + field_bytes) (line_end ∷ []) next in
    rw (eq-eqb _ _ byte)
size_back text at source (some target) s h =
    let rest = written_field target ++ (line_end ∷ []) in
    let next = behind text at field_bytes (written_field source) rest (length_written source s.0) (h ∙ simp append_assoc) in
    let byte : get_or text (at + field_bytes) 0 ≡ get_or rest 0 0 = byte_here text (at + field_bytes) rest next in
    rw (byte, ne_eqb _ _ (field_begins target (line_end ∷ []) s.1.0))

asked_small : (n source : ℕ) (target : Option ℕ) → n ≤ max_field → judge_source n source ≡ 0 → judge_asked n target ≡ 0 → Small (question_fields source target)
unfolding question_fields judge_asked
asked_small n source none few s t = (omega (arith, (source_in n source s).1), tt)
asked_small n source (some target) few s t = (omega (arith, (source_in n source s).1), (omega (arith, (target_in_lem n target t).1), tt))

asked_fields : (source : ℕ) (target : Option ℕ) → question_of (question_fields source target) ≡ record { source = source; target = target }
unfolding question_fields question_of target_in
asked_fields source none = refl
asked_fields source (some target) = refl

-- nothing stands behind the last byte
end_back : (text : List ℕ) (at k : ℕ) → 0 < k → length (drop at text) ≡ k → judge_end text (at + k) ≡ 0
unfolding judge_end
end_back text at k positive l =
    let long : length text - at ≡ k = sym (length-drop at text) ∙ l in
    rw (eq-eqb (length text) (at + k) (omega arith))

fields_long : (xs : List ℕ) → Small xs → length (flat_map written_field xs) ≡ field_bytes * length xs
unfolding flat_map
fields_long [] s = refl
fields_long (x ∷ xs) s = length-append (written_field x) (flat_map written_field xs) ∙ rw (length_written x s.0, fields_long xs s.1) (omega arith)

line_long : (xs : List ℕ) → Small xs → length (written_line written_field xs) ≡ line_bytes (length xs)
unfolding written_line
line_long xs s = length-append (flat_map written_field xs) (line_end ∷ []) ∙ rw (fields_long xs s)

pub question_back : (text : List ℕ) (n at source : ℕ) (target : Option ℕ) → n ≤ max_field → judge_source n source ≡ 0 → judge_asked n target ≡ 0
    → drop at text ≡ written_line written_field (question_fields source target) → read_question text n at ≡ value (record { source = source; target = target })
unfolding read_question
question_back text n at source target few s t h =
    let fields = question_fields source target in
    let small = asked_small n source target few s t in
    let size : question_size text at ≡ length fields = size_back text at source target small h in
    let line = line_back plain_fields text at fields [] (length fields) refl small (h ∙ sym (append-nil (written_line written_field fields))) in
    let end = end_back text at (line_bytes (length fields)) (omega arith) (ap length h ∙ line_long fields small) in
    rw (size, line.0, asked_fields source target, s, t, end)

-- ---- the whole text

body_back : (text : List ℕ) (plan : Plan) → SoundPlan plan
    → drop (line_bytes 2) text ≡ flat_map written_piece plan.pieces ++ written_line written_field (question_fields plan.source plan.target)
    → read_body text plan.n (length plan.pieces) ≡ value plan
unfolding read_body
body_back text plan s h =
    let few = (bounds_in plan.n (length plan.pieces) s.bounds).0 in
    let last = written_line written_field (question_fields plan.source plan.target) in
    let pieces = pieces_back text plan.n (line_bytes 2) plan.pieces last (omega arith) s.each h in
    let at = line_bytes 2 + total (map piece_bytes plan.pieces) in
    let question = question_back text plan.n at plan.source plan.target (omega arith) s.source_in s.target_in_lem pieces.1 in
    rw (s.bounds, pieces.0, question)

pub text_back : (plan : Plan) → SoundPlan plan → read_plan (written plan) ≡ value plan
unfolding read_plan written
text_back plan s =
    let n = plan.n in
    let p = length plan.pieces in
    let few = bounds_in n p s.bounds in
    let rest = flat_map written_piece plan.pieces ++ written_line written_field (question_fields plan.source plan.target) in
    let line = line_back plain_fields (written_line written_field (n ∷ p ∷ []) ++ rest) 0 (n ∷ p ∷ []) rest 2 refl (omega (arith, few.0), (omega (arith, few.1), tt)) refl in
    rw line.0 (body_back (written_line written_field (n ∷ p ∷ []) ++ rest) plan s line.1)
