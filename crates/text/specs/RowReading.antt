-- The rows of a table, read one after the other into 24 rows of 24 places.
--   RowsGoing rows_begun rows_turn rows_broken rows_ended   the loop over the rows
--   line_ends line_end_in                               a line lies in the text
--   rows_from_lem rows_back                             the rows of a table, read back from its places
use Rattle.std.specs.Prelude.{◌≡◌, refl, eqb, get_or, length, take, drop, replicate}
use Rattle.std.proofs.Common.{sym, ap, ◌∙◌, subst, add-one, arith, eqb-true, length-append, take_at, drop_at}
use mathlib.Core.List.{List, [], ◌∷◌, ◌++◌, map, flat_map, append_assoc, append-nil}
use Prim.Native.Nat.{ℕ, suc, ◌+◌, ◌-◌, ◌*◌, ◌≤◌, ◌<◌}
use Rattle.std.proofs.Math.ListN.{get_or-eq_default}
use Rattle.logic.specs.Tests.{Order, less, more, order, Truth, holds, fails, truth}
use Rattle.basics.specs.Buffers.{flat_map_snoc, put, put_padded}
use Rattle.basics.specs.ListLaws.{every_snoc, length_padded}
use Rattle.definitions.specs.Limits.{max_size, row_places, table_places}
use Rattle.definitions.specs.Lists.{padded, up_from, Every}
use Rattle.definitions.specs.Judgement.{judge_row}
use Rattle.definitions.specs.Fields.{line_end, field_bytes, length_at}
use Rattle.definitions.specs.Reading.{FieldReading, Read, refused, value, ◌>>=◌, require, read_fields, judge_line_end, read_line, line_bytes, read_rows}
use Rattle.text.specs.Outcomes.{RowsLeft}
use Rattle.text.specs.ReadSteps.{after, after_after, after_none, judged, rows_go, rows_stop}
use Rattle.text.specs.Padding.{padded_inner}

-- ---- a line lies in the text

fields_of : (field : FieldReading) (text : List ℕ) (at k : ℕ) (xs : List ℕ) → read_line field text at k ≡ value xs → read_fields field text at k ≡ value xs
unfolding read_line
fields_of field text at k xs e = go (read_fields field text at k) refl e
  where
    end : (r : Read (Unit {0})) (ys : List ℕ) → ◌>>=◌ r (λ _. value ys) ≡ value xs → value ys ≡ value xs
    end (refused j) ys q = let z : ◌≡◌ {A = ℕ} 0 1 = cc in absurd (omega arith)
    end (value u) ys q = q

    go : (r : Read (List ℕ)) → read_fields field text at k ≡ r → ◌>>=◌ r (λ ys. ◌>>=◌ (require (judge_line_end text (at + field_bytes * k))) (λ _. value ys)) ≡ value xs → read_fields field text at k ≡ value xs
    go (refused j) p q = let z : ◌≡◌ {A = ℕ} 0 1 = cc in absurd (omega arith)
    go (value ys) p q = p ∙ end (require (judge_line_end text (at + field_bytes * k))) ys q

pub line_ends : (field : FieldReading) (text : List ℕ) (at k : ℕ) (xs : List ℕ) → read_line field text at k ≡ value xs → at + field_bytes * k < length text
unfolding read_line judge_line_end
line_ends field text at k xs e = go (truth (eqb (get_or text (at + field_bytes * k) 0) line_end)) (order (at + field_bytes * k) (length text))
  where
    f : read_fields field text at k ≡ value xs
    f = fields_of field text at k xs e

    go : Truth (eqb (get_or text (at + field_bytes * k) 0) line_end) → Order (at + field_bytes * k) (length text) → at + field_bytes * k < length text
    go t (less _ l) = l
    go (holds t) (more _ l) = absurd (omega (arith, eqb-true (get_or text (at + field_bytes * k) 0) line_end t, get_or-eq_default text 0 {n = at + field_bytes * k} l))
    go (fails t) (more _ l) = let bad : refused 3 ≡ value xs = simp (f, t) at e in let z : ◌≡◌ {A = ℕ} 0 1 = cc in absurd (omega arith)

judged_value : (cause : List ℕ → ℕ) (r : Read (List ℕ)) (xs : List ℕ) → judged cause r ≡ value xs → r ≡ value xs
unfolding judged
judged_value cause (refused k) xs e = let z : ◌≡◌ {A = ℕ} 0 1 = cc in absurd (omega arith)
judged_value cause (value ys) xs e = go (require (cause ys)) e
  where
    go : (q : Read (Unit {0})) → ◌>>=◌ q (λ _. value ys) ≡ value xs → value ys ≡ value xs
    go (refused j) p = let z : ◌≡◌ {A = ℕ} 0 1 = cc in absurd (omega arith)
    go (value u) p = p

-- the next line begins in the text, or at its end
pub line_end_in : (field : FieldReading) (cause : List ℕ → ℕ) (text : List ℕ) (at k : ℕ) (xs : List ℕ) → judged cause (read_line field text at k) ≡ value xs → at + line_bytes k ≤ length text
line_end_in field cause text at k xs e = omega (arith, line_ends field text at k xs (judged_value cause (read_line field text at k) xs e))

-- ---- the loop

-- i rows are in the table, and the next begins at a place of the text
pub record RowsGoing (text : List ℕ) (at m i place : ℕ) (table : List ℕ) : Type 0 where
  pub rows : List (List ℕ)
  pub count : length rows ≡ i
  pub wide : Every (λ row. length row ≡ m) rows
  pub filled : length (flat_map (padded row_places 0) rows) ≡ row_places * i
  pub so_far : read_rows text at m 0 m ≡ after rows (read_rows text place m i (m - i))
  pub held : table ≡ padded table_places 0 (flat_map (padded row_places 0) rows)
  pub reached : place ≡ at + i * line_bytes m
  pub inside : place ≤ length text

pub rows_begun : (text : List ℕ) (at m : ℕ) (table : List ℕ) → table ≡ replicate table_places 0 → at ≤ length text → RowsGoing text at m 0 at table
unfolding flat_map padded
rows_begun text at m table e h =
    let z : m - 0 ≡ m = (omega arith) in
    let y : at + 0 * line_bytes m ≡ at = (omega arith) in
    record {
      rows = [];
      count = refl;
      wide = tt;
      filled = refl;
      so_far = rw z (sym (after_none (read_rows text at m 0 m)));
      held = e;
      reached = sym y;
      inside = h;
    }

module _ (text : List ℕ) (at m i place : ℕ) (table : List ℕ) (g : RowsGoing text at m i place table) (small : m ≤ max_size) (more_left : i < m) where
  pub rows_turn : (part : List ℕ) → (xs : List ℕ) × (judged (judge_row i) (read_line length_at text place m) ≡ value xs) × (part ≡ xs) → length part ≡ m
      → RowsGoing text at m (i + 1) (place + line_bytes m) (put table (row_places * i) part)
  rows_turn part row long =
      let e : judged (judge_row i) (read_line length_at text place m) ≡ value part = row.1 ∙ ap value (sym row.2) in
      let k : m - i ≡ suc (m - (i + 1)) = (omega arith) in
      let fit : length part ≤ row_places = (omega arith) in
      let y = put_padded table_places (flat_map (padded row_places 0) g.rows) part (row_places * i) g.filled (omega arith) in
      let x = padded_inner table_places row_places (flat_map (padded row_places 0) g.rows) part fit (omega (arith, g.filled)) in
      record {
        rows = g.rows ++ part ∷ [];
        count = length-append g.rows (part ∷ []) ∙ ap (λ (n : ℕ). n + 1) g.count;
        wide = every_snoc (λ row. length row ≡ m) g.rows part g.wide long;
        filled = rw flat_map_snoc (simp length-append (omega (arith, g.filled, length_padded row_places 0 part fit)));
        so_far = g.so_far ∙ rw (k, rows_go text place m i (m - (i + 1)) part e, after_after, add-one i);
        held = rw (g.held, y) (sym (rw flat_map_snoc x));
        reached = omega (arith, g.reached);
        inside = line_end_in length_at (judge_row i) text place m part e;
      }

  pub rows_broken : (j : ℕ) → judged (judge_row i) (read_line length_at text place m) ≡ refused j → read_rows text at m 0 m ≡ refused j
  unfolding after
  rows_broken j e =
      let k : m - i ≡ suc (m - (i + 1)) = (omega arith) in
      g.so_far ∙ rw (k, rows_stop text place m i (m - (i + 1)) j e)

pub rows_ended : (text : List ℕ) (at m i place : ℕ) (table : List ℕ) → RowsGoing text at m i place table → i ≡ m → (rows : List (List ℕ)) × (read_rows text at m 0 m ≡ value rows) × RowsLeft text at m table rows
unfolding after read_rows
rows_ended text at m i place table g e =
    let z : m - i ≡ 0 = (omega arith) in
    (g.rows, g.so_far ∙ rw (z, append-nil), record { tall = g.count ∙ e; wide = g.wide; held = g.held; inside = omega (arith, g.reached, g.inside, ap (λ (n : ℕ). n * line_bytes m) e) })

-- ---- read back

-- behind the places before row s, the rows from s on
pub rows_from_lem : (m s : ℕ) (before rest : List ℕ) (rows : List (List ℕ)) → m ≤ row_places → Every (λ row. length row ≡ m) rows → length before ≡ row_places * s
    → map (λ i. take m (drop (row_places * i) (before ++ (flat_map (padded row_places 0) rows ++ rest)))) (up_from s (length rows)) ≡ rows
unfolding flat_map up_from padded
rows_from_lem m s before rest [] small wide e = refl
rows_from_lem m s before rest (row ∷ rows) small wide e =
    let x = padded row_places 0 row in
    let long : length x ≡ row_places = length_padded row_places 0 row (omega (arith, wide.0)) in
    let shift : before ++ ((x ++ flat_map (padded row_places 0) rows) ++ rest) ≡ (before ++ x) ++ (flat_map (padded row_places 0) rows ++ rest) = simp append_assoc in
    let next : length (before ++ x) ≡ row_places * suc s = omega (arith, length-append before x, long, e) in
    rw (drop_at before ((x ++ flat_map (padded row_places 0) rows) ++ rest) (row_places * s) e, first_row)
    (ap (λ (l : List (List ℕ)). row ∷ l) (subst (λ (t : List ℕ). map (λ i. take m (drop (row_places * i) t)) (up_from (suc s) (length rows)) ≡ rows) (sym shift) (rows_from_lem m (suc s) (before ++ x) rest rows small wide.1 next)))
  where
    first_row : take m ((padded row_places 0 row ++ flat_map (padded row_places 0) rows) ++ rest) ≡ row
    first_row = simp append_assoc (take_at row _ m wide.0)

pub rows_back : (m : ℕ) (table : List ℕ) (rows : List (List ℕ)) → m ≤ row_places → Every (λ row. length row ≡ m) rows → table ≡ padded table_places 0 (flat_map (padded row_places 0) rows)
    → map (λ i. take m (drop (row_places * i) table)) (up_from 0 (length rows)) ≡ rows
unfolding padded
rows_back m table rows small wide e =
    rw e (rows_from_lem m 0 [] (replicate (table_places - length (flat_map (padded row_places 0) rows)) 0) rows small wide refl)
