-- What filling leaves in an array of rows, and what is asked of it: the proofs behind the file `IndexTheorems`.
--   left_uneven left_outside left_empty filled_whole     filling, case by case
--   index_at                              what one row becomes
--   index_tall index_long index_keeps     filling keeps the rows, their places and the numbers at other places
--   index_held                            what is filled holds the index
--   column_outside .. column_found        what is asked of one row, case by case
--   index_least                           an index as built gives the lowest column of least length of any stretch
use Rattle.std.specs.Prelude.{◌≡◌, ◌&&◌, List, [], ◌⊎◌, ◌≢◌, ℕ, ◌+◌, ◌-◌, ◌≤◌, ◌<◌, eqb, get_or, length}
use Rattle.std.proofs.Common.{sym, ap, ◌∙◌, inl, inr, arith}
use borrow.Author.Tests.{eqb-true, leb-true, eq-eqb, ne_eqb, lt-ltb, le-ltb, le-leb, lt-leb}
use Rattle.std.proofs.Math.Dec.{leb}
use Rattle.std.proofs.Math.ListN.{get_or-eq_default}
use Rattle.definitions.specs.Limits.{row_places}
use Rattle.definitions.specs.Best.{by}
use Rattle.definitions.specs.Index.{IsLeast, column_of, ask}
use Rattle.definitions.proofs.Index.{least_in_lem}
use Rattle.logic.specs.Tests.{Order, less, more, order, Truth, holds, fails, truth, and_left, and_right}
use Rattle.index.specs.HeldRows.{lengths_in, held_from, HeldAt, filled_row, fill_rows, filled_index, Indexed, least_column}
use Rattle.index.specs.StretchHalves.{least_some}
use Rattle.index.specs.Questions.{ask_least}
use Rattle.index.specs.HeldLaws.{RowsLong, row_held, row_before, row_behind, each_tall, each_at, rows_few, rows_long}

module _ (index rows : List (List ℕ)) (col0 cols : ℕ) where
  -- the two cases of filling
  data Filled : Type 0 where
    left : filled_index index rows col0 cols ≡ index → Filled
    filled : length index ≡ length rows → col0 + cols ≤ row_places → filled_index index rows col0 cols ≡ fill_rows index rows col0 col0 cols → Filled

  which : Filled
  unfolding filled_index
  which = go (truth (eqb (length index) (length rows) && leb (col0 + cols) row_places))
    where
      go : Truth (eqb (length index) (length rows) && leb (col0 + cols) row_places) → Filled
      go (holds t) =
          filled (eqb-true _ _ (and_left (eqb (length index) (length rows)) (leb (col0 + cols) row_places) t))
          (leb-true _ _ (and_right (eqb (length index) (length rows)) (leb (col0 + cols) row_places) t))
          (rw t)
      go (fails t) = left (rw t)

  -- ---- filling, case by case

  pub left_uneven : length index ≢ length rows → index ≡ filled_index index rows col0 cols
  unfolding filled_index
  left_uneven h = rw (ne_eqb (length index) (length rows) h)

  module _ (tall : length index ≡ length rows) where
    pub left_outside : row_places < col0 + cols → index ≡ filled_index index rows col0 cols
    unfolding filled_index
    left_outside h = rw (eq-eqb (length index) (length rows) tall, lt-leb (col0 + cols) row_places h)

    pub filled_whole : col0 + cols ≤ row_places → fill_rows index rows col0 col0 cols ≡ filled_index index rows col0 cols
    unfolding filled_index
    filled_whole h = rw (eq-eqb (length index) (length rows) tall, le-leb (col0 + cols) row_places h)

  pub left_empty : cols < 2 → index ≡ filled_index index rows col0 cols
  left_empty few = go which
    where
      go : Filled → index ≡ filled_index index rows col0 cols
      go (left e) = sym e
      go (filled _ _ e) = rows_few index rows col0 col0 cols few ∙ sym e

  -- what one row becomes
  abbrev fill : List ℕ → List ℕ → List ℕ
  fill held row = filled_row held row col0 col0 cols

  fill_tall : length (fill_rows index rows col0 col0 cols) ≡ length index
  unfolding fill_rows
  fill_tall = each_tall fill index rows

  fill_at : (r : ℕ) → r < length index → r < length rows → get_or (fill_rows index rows col0 col0 cols) r [] ≡ fill (get_or index r []) (get_or rows r [])
  unfolding fill_rows
  fill_at r l m = each_at fill index rows r l m

  -- what one row becomes where the index is filled
  pub index_at : length index ≡ length rows → col0 + cols ≤ row_places → (r : ℕ) → r < length rows → get_or (filled_index index rows col0 cols) r [] ≡ filled_row (get_or index r []) (get_or rows r []) col0 col0 cols
  index_at tall fits r l = ap (λ (xs : List (List ℕ)). get_or xs r []) (sym (filled_whole tall fits)) ∙ fill_at r (omega arith) l

  pub index_tall : length (filled_index index rows col0 cols) ≡ length index
  index_tall = go which
    where
      go : Filled → length (filled_index index rows col0 cols) ≡ length index
      go (left e) = ap length e
      go (filled _ _ e) = ap length e ∙ fill_tall

  module _ (long : RowsLong index) where
    pub index_long : RowsLong (filled_index index rows col0 cols)
    index_long = go which
      where
        go : Filled → RowsLong (filled_index index rows col0 cols)
        go (left e) = rw e long
        go (filled tall fits e) = rw e (rows_long index rows col0 col0 cols tall long fits)

    pub index_keeps : (r p : ℕ) → (p < col0) ⊎ (col0 + cols ≤ p + 1) → get_or (get_or (filled_index index rows col0 cols) r []) p 0 ≡ get_or (get_or index r []) p 0
    index_keeps r p outside = go which (order r (length index)) outside
      where
        go : Filled → Order r (length index) → (p < col0) ⊎ (col0 + cols ≤ p + 1) → get_or (get_or (filled_index index rows col0 cols) r []) p 0 ≡ get_or (get_or index r []) p 0
        go (left e) _ _ = rw e
        go (filled tall fits e) (less _ l) (inl o) =
            rw (e, fill_at r l (omega arith)) (row_before (get_or rows r []) col0 col0 cols (get_or index r []) (long r l) fits p o)
        go (filled tall fits e) (less _ l) (inr o) =
            rw (e, fill_at r l (omega arith)) (row_behind (get_or rows r []) col0 col0 cols (get_or index r []) (long r l) fits p o)
        go (filled tall fits e) (more _ l) _ = ap (λ (row : List ℕ). get_or row p 0) (get_or-eq_default (filled_index index rows col0 cols) [] {n = r} (omega (arith, index_tall)) ∙ sym (get_or-eq_default index [] {n = r} l))

    module _ (tall : length index ≡ length rows) (some : 1 ≤ cols) (fits : col0 + cols ≤ row_places) where
      pub index_held : Indexed (filled_index index rows col0 cols) rows col0 cols
      index_held = record {
        tall = index_tall ∙ tall;
        held = λ r l. placed r l;
      }
        where
          placed : (r : ℕ) → r < length rows → HeldAt (get_or (filled_index index rows col0 cols) r []) col0 (held_from (lengths_in (get_or rows r [])) col0 cols)
          placed r l i h =
              let m : r < length index = omega arith in
              ap (λ (row : List ℕ). get_or row (col0 + i) 0) (index_at tall fits r l)
              ∙ row_held (get_or rows r []) col0 col0 cols (get_or index r []) (long r m) fits some i h

-- ---- what is asked of one row, case by case

module _ (row held : List ℕ) (col0 cols first end : ℕ) where
  pub column_outside : row_places < col0 + cols → 0 ≡ least_column row held col0 cols first end
  unfolding least_column
  column_outside h = rw (lt-leb (col0 + cols) row_places h)

  module _ (fits : col0 + cols ≤ row_places) where
    pub column_empty : end ≤ first → 0 ≡ least_column row held col0 cols first end
    unfolding least_column
    column_empty h = rw (le-leb (col0 + cols) row_places fits, le-ltb first end h)

    pub column_leaves : first < end → cols < end → 0 ≡ least_column row held col0 cols first end
    unfolding least_column
    column_leaves some h = rw (le-leb (col0 + cols) row_places fits, lt-ltb first end some, lt-leb end cols h)

    pub column_found : (c : ℕ) → first < end → end ≤ cols → by c (lengths_in row c) ≡ ask cols (lengths_in row) held (col0 + first) (col0 + end) col0 col0 cols
        → c - col0 ≡ least_column row held col0 cols first end
    unfolding least_column column_of
    column_found c some inside found = rw (le-leb (col0 + cols) row_places fits, lt-ltb first end some, le-leb end cols inside, ← found)

-- the least of a stretch, counted from col0
shifted : (row : ℕ → ℕ) (col0 first end column : ℕ) → IsLeast row (col0 + first) (col0 + end) column → IsLeast (λ c. row (col0 + c)) first end (column - col0)
shifted row col0 first end column h =
    let e : col0 + (column - col0) ≡ column = omega (arith, h.low) in
    record {
      low = omega (arith, h.low);
      high = omega (arith, h.low, h.high);
      no_less = λ c a b. rw e (h.no_less (col0 + c) (omega arith) (omega arith));
      no_lower = λ c a b. rw e (h.no_lower (col0 + c) (omega arith) (omega arith));
    }

pub index_least : (row held : List ℕ) (col0 cols first end : ℕ) → HeldAt held col0 (held_from (lengths_in row) col0 cols) → col0 + cols ≤ row_places → first < end → end ≤ cols
    → IsLeast (λ c. lengths_in row (col0 + c)) first end (least_column row held col0 cols first end)
unfolding least_column column_of
index_least row held col0 cols first end h fits some inside =
    let lengths = lengths_in row in
    let found = ask_least lengths held (col0 + first) (col0 + end) col0 col0 cols (omega arith) (omega arith) (omega arith) h in
    let f = least_some lengths (col0 + first) (col0 + end - (col0 + first)) (omega arith) in
    rw (le-leb (col0 + cols) row_places fits, lt-ltb first end some, le-leb end cols inside, found, f.here)
    (shifted lengths col0 first end f.column (least_in_lem lengths (col0 + first) (col0 + end) f.column (lengths f.column) (omega arith) f.here))
