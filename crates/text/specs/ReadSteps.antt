-- Reading front to back, one step more: what a loop over fields, rows or pieces needs.
--   after after_after                 what is read behind what is in hand
--   Inside field_inside field_in fields_in   a field, and a line's fields, lie in the text
--   FieldsGoing fields-..             the loop over a line's fields: one field more, no field, or all of them
--   require_stop require_two          a cause, and the first of two
--   end_there end_other end_past      the byte at a line's end
--   judged                            a line that is judged when it is read
--   rows_go rows_stop pieces-..       one row more, one piece more
--   read_sized piece-.. vertices_stop table-..   a piece, part by part
use Rattle.std.specs.Prelude.{◌≡◌, refl, List, [], ◌∷◌, ◌++◌, ◌≢◌, ℕ, zero, suc, ◌+◌, ◌-◌, ◌*◌, ◌≤◌, ◌<◌, leb, get_or, length, take, set}
use Rattle.std.proofs.Common.{sym, ap, ◌∙◌, append_assoc, arith, leb-true, eq-eqb, ne_eqb, length-set, take-suc-set, add-one, append-nil, take_all}
use Rattle.std.proofs.Math.ListN.{get_or-eq_default}
use Rattle.logic.specs.Tests.{Truth, holds, fails, truth}
use Rattle.definitions.specs.Lists.{first_cause}
use Rattle.definitions.specs.Network.{Piece}
use Rattle.definitions.specs.Judgement.{judge_size, judge_vertices, judge_row, judge_blocks}
use Rattle.definitions.specs.Fields.{line_end, field_bytes, FieldAnswer, a_field, no_field, six_at, field_at, length_at}
use Rattle.definitions.specs.Reading.{require, read_rows, read_piece, piece_bytes, read_pieces, FieldReading, Read, refused, value, ◌>>=◌, read_field, read_fields, judge_line_end, read_line, line_bytes}
use Rattle.definitions.proofs.Laws.CauseLaws.{refused as first, last}
use Rattle.definitions.proofs.Laws.ReadLaws.{bind_value, require_value}

-- what is in hand, and then what is read
unfoldable pub after : {A : Type 0} → List A → Read (List A) → Read (List A)
after xs r = do
  ys ← r
  value (xs ++ ys)

pub after_after : {A : Type 0} (xs ys : List A) (r : Read (List A)) → after xs (after ys r) ≡ after (xs ++ ys) r
unfolding after
after_after xs ys (refused k) = refl
after_after xs ys (value zs) = ap value (sym (append_assoc xs ys zs))

pub after_none : {A : Type 0} (r : Read (List A)) → after [] r ≡ r
unfolding after
after_none (refused k) = refl
after_none (value zs) = refl

-- ---- fields, read in one way or the other

-- what it says: a number, or nothing
module _ (field : FieldReading) (text : List ℕ) (at : ℕ) where
  pub field_go : (x : ℕ) → a_field x ≡ field text at → (y : ℕ) × (read_field field text at ≡ value y) × (x ≡ y)
  unfolding read_field
  field_go x e = (x, rw (← e), refl)

  pub field_stop : no_field ≡ field text at → read_field field text at ≡ refused 3
  unfolding read_field
  field_stop e = rw (← e)

-- a reading whose fields lie in the text
abbrev pub Inside : FieldReading → Type 0
Inside field = (text : List ℕ) (at : ℕ) → (field text at).number ≡ 0 → at + field_bytes ≤ length text

pub field_inside : (says : List ℕ → FieldAnswer) → Inside (six_at says)
unfolding six_at
field_inside says text at e = go (truth (leb (at + field_bytes) (length text)))
  where
    go : Truth (leb (at + field_bytes) (length text)) → at + field_bytes ≤ length text
    go (holds t) = leb-true (at + field_bytes) (length text) t
    go (fails t) = let bad : ◌≡◌ {A = ℕ} 3 0 = simp t at e in absurd (omega arith)

pub field_in : (field : FieldReading) → Inside field → (text : List ℕ) (at x : ℕ) → read_field field text at ≡ value x → at + field_bytes ≤ length text
unfolding read_field
field_in field inside text at x e =
    let number = bind_value (require (field text at).number) _ x e in
    inside text at (require_value (field text at).number number.0 number.1)

module _ (field : FieldReading) (text : List ℕ) (at k : ℕ) where
  fields_go : (x : ℕ) → read_field field text at ≡ value x → read_fields field text at (suc k) ≡ after (x ∷ []) (read_fields field text (at + field_bytes) k)
  unfolding read_fields after
  fields_go x e = rw e

  fields_stop : (j : ℕ) → read_field field text at ≡ refused j → read_fields field text at (suc k) ≡ refused j
  unfolding read_fields
  fields_stop j e = rw e

-- i of k fields are in their places
pub record FieldsGoing (says : List ℕ → FieldAnswer) (text : List ℕ) (at k i : ℕ) (out : List ℕ) : Type 0 where
  pub long : length out ≡ k
  pub inside : at + field_bytes * i ≤ length text
  pub so_far : read_fields (six_at says) text at k ≡ after (take i out) (read_fields (six_at says) text (at + field_bytes * i) (k - i))

pub fields_begun : (says : List ℕ → FieldAnswer) (text : List ℕ) (at k : ℕ) (out : List ℕ) → length out ≡ k → at ≤ length text → FieldsGoing says text at k 0 out
fields_begun says text at k out l h =
    let z : k - 0 ≡ k = omega arith in
    let y : at + field_bytes * 0 ≡ at = omega arith in
    record { long = l; inside = omega arith; so_far = rw (z, y) (sym (after_none (read_fields (six_at says) text at k))) }

module _ (says : List ℕ → FieldAnswer) (text : List ℕ) (at k i : ℕ) (out : List ℕ) (g : FieldsGoing says text at k i out) where
  -- one field more
  pub fields_next : (x : ℕ) → i < k → (y : ℕ) × (read_field (six_at says) text (at + field_bytes * i) ≡ value y) × (x ≡ y) → FieldsGoing says text at k (i + 1) (set out i x)
  fields_next x h field =
      let e = field.1 ∙ ap value (sym field.2) in
      let z : k - i ≡ suc (k - (i + 1)) = omega arith in
      let inside = field_in (six_at says) (field_inside says) text (at + field_bytes * i) x e in
      let y : at + field_bytes * i + field_bytes ≡ at + field_bytes * (i + 1) = omega arith in
      record {
        long = length-set out i x ∙ g.long;
        inside = rw (← y) inside;
        so_far = g.so_far ∙ rw (z, fields_go (six_at says) text (at + field_bytes * i) (k - (i + 1)) x e, after_after, y, add-one i, take-suc-set out i x (omega (arith, g.long)));
      }

  -- no field
  pub fields_broken : (j : ℕ) → i < k → read_field (six_at says) text (at + field_bytes * i) ≡ refused j → read_fields (six_at says) text at k ≡ refused j
  unfolding after
  fields_broken j h e =
      let z : k - i ≡ suc (k - (i + 1)) = omega arith in
      g.so_far ∙ rw (z, fields_stop (six_at says) text (at + field_bytes * i) (k - (i + 1)) j e)

  -- all of them
  pub fields_ended : i ≡ k → read_fields (six_at says) text at k ≡ value out
  unfolding after read_fields
  fields_ended h =
      let z : k - i ≡ 0 = omega arith in
      let t : take i out ≡ out = take_all i out (omega (arith, g.long)) in
      g.so_far ∙ rw (z, t, append-nil)

pub fields_in : (field : FieldReading) → Inside field → (text : List ℕ) (at k : ℕ) (xs : List ℕ) → read_fields field text at k ≡ value xs → at ≤ length text → at + field_bytes * k ≤ length text
unfolding read_fields
fields_in field inside text at zero xs e h = omega arith
fields_in field inside text at (suc k) xs e h =
    let first = bind_value (read_field field text at) _ xs e in
    let rest = bind_value (read_fields field text (at + field_bytes) k) _ xs first.2 in
    omega (arith, fields_in field inside text (at + field_bytes) k rest.0 rest.1 (field_in field inside text at first.0 first.1))

-- ---- causes

pub require_stop : (k : ℕ) → k ≢ 0 → require k ≡ refused k
require_stop zero h = absurd (h refl)
require_stop (suc k) h = refl

-- two, of which one turns the text away
pub require_two : {A : Type 0} (a b k : ℕ) (r : Read A) → k ≡ first_cause (a ∷ b ∷ []) → k ≢ 0 → ◌>>=◌ (require a) (λ _. ◌>>=◌ (require b) (λ _. r)) ≡ refused k
unfolding first_cause
require_two zero zero k r e h = absurd (h e)
require_two zero (suc b) k r e h = ap refused (sym (e ∙ last (suc b)))
require_two (suc a) b k r e h = ap refused (sym (e ∙ first (suc a) (b ∷ []) (λ z. omega arith)))

-- ---- the byte at a line's end

-- it stands there, or not; past the text's end there is none
module _ (text : List ℕ) (at : ℕ) where
  pub end_there : get_or text at 0 ≡ line_end → 0 ≡ judge_line_end text at
  unfolding judge_line_end
  end_there h = rw (eq-eqb _ _ h)

  pub end_other : get_or text at 0 ≢ line_end → 3 ≡ judge_line_end text at
  unfolding judge_line_end
  end_other h = rw (ne_eqb _ _ h)

  pub end_past : length text ≤ at → 3 ≡ judge_line_end text at
  end_past h = end_other (λ e. omega (arith, get_or-eq_default text 0 {n = at} h))

-- ---- judged

-- what is read, judged
unfoldable pub judged : {A : Type 0} → (A → ℕ) → Read A → Read A
judged cause r = do
  a ← r
  _ ← require (cause a)
  value a

pub judged_go : {A : Type 0} (cause : A → ℕ) (r : Read A) (a : A) → r ≡ value a → cause a ≡ 0 → judged cause r ≡ value a
unfolding judged
judged_go cause r a e t = rw (e, t)

pub judged_out : {A : Type 0} (cause : A → ℕ) (r : Read A) (a : A) → r ≡ value a → cause a ≢ 0 → judged cause r ≡ refused (cause a)
unfolding judged
judged_out cause r a e t = rw (e, require_stop (cause a) t)

pub judged_stop : {A : Type 0} (cause : A → ℕ) (r : Read A) (k : ℕ) → r ≡ refused k → judged cause r ≡ refused k
unfolding judged
judged_stop cause r k e = rw e

-- the refusal that a judgement gives comes before what is read next
judged_bind : {A B : Type 0} (cause : A → ℕ) (r : Read A) (f : A → Read B) → ◌>>=◌ r (λ a. ◌>>=◌ (require (cause a)) (λ _. f a)) ≡ ◌>>=◌ (judged cause r) f
unfolding judged
judged_bind cause (refused k) f = refl
judged_bind {A} {B} cause (value a) f = go (require (cause a))
  where
    go : (q : Read (Unit {0})) → ◌>>=◌ q (λ _. f a) ≡ ◌>>=◌ (◌>>=◌ q (λ _. value a)) f
    go (refused k) = refl
    go (value u) = refl

-- ---- rows

module _ (text : List ℕ) (at m i k : ℕ) where
  rows_by : read_rows text at m i (suc k) ≡ ◌>>=◌ (judged (judge_row i) (read_line length_at text at m)) (λ row. after (row ∷ []) (read_rows text (at + line_bytes m) m (suc i) k))
  unfolding read_rows after
  rows_by = judged_bind (judge_row i) (read_line length_at text at m) (λ row. after (row ∷ []) (read_rows text (at + line_bytes m) m (suc i) k))

  pub rows_go : (row : List ℕ) → judged (judge_row i) (read_line length_at text at m) ≡ value row → read_rows text at m i (suc k) ≡ after (row ∷ []) (read_rows text (at + line_bytes m) m (suc i) k)
  rows_go row e = rows_by ∙ rw e

  pub rows_stop : (j : ℕ) → judged (judge_row i) (read_line length_at text at m) ≡ refused j → read_rows text at m i (suc k) ≡ refused j
  rows_stop j e = rows_by ∙ rw e

-- ---- a piece

-- the piece of vertices and rows
abbrev pub piece_of : List ℕ → List (List ℕ) → Piece
piece_of vertices rows = record { vertices = vertices; rows = rows }

-- the rest of a piece, whose size is m
unfoldable pub read_sized : List ℕ → ℕ → ℕ → ℕ → Read Piece
read_sized text n at m = do
  vertices ← read_line field_at text (at + field_bytes) m
  _ ← require (judge_vertices n vertices)
  rows ← read_rows text (at + line_bytes (suc m)) m 0 m
  _ ← require (judge_blocks (piece_of vertices rows))
  value (piece_of vertices rows)

module _ (text : List ℕ) (n at : ℕ) where
  piece_by : read_piece text n at ≡ ◌>>=◌ (judged judge_size (read_field field_at text at)) (read_sized text n at)
  unfolding read_piece read_sized
  piece_by = judged_bind judge_size (read_field field_at text at) (read_sized text n at)

  pub piece_stop : (k : ℕ) → judged judge_size (read_field field_at text at) ≡ refused k → read_piece text n at ≡ refused k
  piece_stop k e = piece_by ∙ rw e

  pub piece_go : (m : ℕ) → judged judge_size (read_field field_at text at) ≡ value m → read_piece text n at ≡ read_sized text n at m
  piece_go m e = piece_by ∙ rw e

module _ (text : List ℕ) (n at m : ℕ) where
  -- what follows the vertices
  rest_rows : List ℕ → Read Piece
  rest_rows vertices = do
    rows ← read_rows text (at + line_bytes (suc m)) m 0 m
    _ ← require (judge_blocks (piece_of vertices rows))
    value (piece_of vertices rows)

  vertices_by : read_sized text n at m ≡ ◌>>=◌ (judged (judge_vertices n) (read_line field_at text (at + field_bytes) m)) rest_rows
  unfolding read_sized rest_rows
  vertices_by = judged_bind (judge_vertices n) (read_line field_at text (at + field_bytes) m) rest_rows

  pub vertices_stop : (k : ℕ) → judged (judge_vertices n) (read_line field_at text (at + field_bytes) m) ≡ refused k → read_sized text n at m ≡ refused k
  vertices_stop k e = vertices_by ∙ rw e

  module _ (vertices : List ℕ) (listed : judged (judge_vertices n) (read_line field_at text (at + field_bytes) m) ≡ value vertices) where
    table_by : read_sized text n at m ≡ ◌>>=◌ (judged (λ rows. judge_blocks (piece_of vertices rows)) (read_rows text (at + line_bytes (suc m)) m 0 m)) (λ rows. value (piece_of vertices rows))
    unfolding rest_rows
    table_by = vertices_by ∙ rw listed (judged_bind (λ rows. judge_blocks (piece_of vertices rows)) (read_rows text (at + line_bytes (suc m)) m 0 m) (λ rows. value (piece_of vertices rows)))

    pub table_stop : (k : ℕ) → judged (λ rows. judge_blocks (piece_of vertices rows)) (read_rows text (at + line_bytes (suc m)) m 0 m) ≡ refused k → read_sized text n at m ≡ refused k
    table_stop k e = table_by ∙ rw e

    pub table_go : (rows : List (List ℕ)) → judged (λ rows. judge_blocks (piece_of vertices rows)) (read_rows text (at + line_bytes (suc m)) m 0 m) ≡ value rows → read_sized text n at m ≡ value (piece_of vertices rows)
    table_go rows e = table_by ∙ rw e

-- ---- pieces

pub pieces_go : (text : List ℕ) (n at k : ℕ) (q : Piece) → read_piece text n at ≡ value q → read_pieces text n at (suc k) ≡ after (q ∷ []) (read_pieces text n (at + piece_bytes q) k)
unfolding read_pieces after
pieces_go text n at k q e = rw e

pub pieces_stop : (text : List ℕ) (n at k j : ℕ) → read_piece text n at ≡ refused j → read_pieces text n at (suc k) ≡ refused j
unfolding read_pieces
pieces_stop text n at k j e = rw e
