-- What filling leaves in the index of the rows of all blocks.
--   row_before row_here row_behind      the rows of an array in which some are replaced
--   block_tall block_long block_keeps   filling one block keeps the rows, their places and the numbers at other places
--   block_held                          and its rows hold the index
--   block_narrow .. block_filled        the cases of the program
--   none_tall none_long                 the array before it is filled
--   up_to_held blocks_indexed blocks_tall    after all blocks the rows of each hold its index
use Rattle.std.specs.Prelude.{◌≡◌, ◌&&◌, ◌⊎◌, ◌≢◌, ltb, length, take, drop, replicate}
use Rattle.std.proofs.Math.Path.{sym}
use Rattle.std.proofs.Common.{ap, ◌∙◌, inl, inr, le_refl, arith, length-drop, length-take-le, get_or-append-add, get_or-take, get_or-drop}
use mathlib.Core.List.{List, [], ◌++◌}
use Prim.Native.Nat.{ℕ, zero, suc, ◌+◌, ◌-◌, ◌≤◌, ◌<◌}
use borrow.Author.Tests.{leb-true, lt-ltb, le-ltb, lt-leb, le-leb, eq-eqb}
use borrow.Rule.Slice.PartMut.{same_len_mid}
use Rattle.std.proofs.Math.Dec.{leb}
use Rattle.std.proofs.Math.ListN.{get_or, get_or-append}
use Rattle.std.proofs.lemmas.List.{length-replicate, get_or-replicate}
use Rattle.definitions.specs.Limits.{vertex_places, row_places, index_row_places}
use Rattle.logic.specs.Tests.{below_suc, split_at, Truth, holds, fails, truth, and_left, and_right}
use Rattle.index.specs.HeldRows.{lengths_in, held_from, HeldAt, filled_index, Indexed}
use Rattle.index.specs.HeldLaws.{RowsLong}
use Rattle.index.specs.IndexTheorems.{the_places, filled_tall, filled_long, filled_keeps, filled_indexed}
use Rattle.preparation.specs.Prepared.{matrix_of, row_in, col_in, cols_in, row_count_in, max_blocks, placements_of, parts_of, table_count, tables_of}
use Rattle.preparation.specs.BlockIndex.{no_index, window_rows, replaced_rows, filled_block, filled_up_to, filled_blocks}
use Rattle.preparation.specs.BlocksApart.{Apart, columns_apart, no_block}
use Rattle.preparation.specs.Numbering.{Fits}
use Rattle.preparation.specs.Parts.{matrix_long, rows_in_lem, rows_are, cols_in_lem, sides_in}
use Rattle.preparation.specs.Tables.{tables_count, NumbersSame, numbers_same}

-- ---- rows that are replaced

-- some rows of an array
module _ (top count : ℕ) (l : List (List ℕ)) where
  window_at : (r : ℕ) → r < count → get_or (take count (drop top l)) r [] ≡ get_or l (top + r) []
  window_at r h = get_or-take count (drop top l) r [] h ∙ get_or-drop top l r []

  module _ (inside : top + count ≤ length l) where
    window_tall : length (take count (drop top l)) ≡ count
    window_tall = length-take-le count (drop top l) (rw length-drop (omega arith))

    module _ (part : List (List ℕ)) (long : length part ≡ count) where
      abbrev Whole : List (List ℕ)
      Whole = take top l ++ (part ++ drop count (drop top l))

      front : length (take top l) ≡ top
      front = length-take-le top l (omega arith)

      replaced_tall : length Whole ≡ length l
      replaced_tall = same_len_mid top count l part (long ∙ sym window_tall)

      row_before : (x : ℕ) → x < top → get_or Whole x [] ≡ get_or l x []
      row_before x h = get_or-append (take top l) (part ++ drop count (drop top l)) [] x (omega (arith, front)) ∙ get_or-take top l x [] h

      row_here : (r : ℕ) → r < count → get_or Whole (top + r) [] ≡ get_or part r []
      row_here r h =
          let e : top + r ≡ length (take top l) + r = omega (arith, front) in
          ap (λ (x : ℕ). get_or Whole x []) e ∙ get_or-append-add (take top l) (part ++ drop count (drop top l)) r [] ∙ get_or-append part (drop count (drop top l)) [] r (omega (arith, long))

      row_behind : (x : ℕ) → top + count ≤ x → get_or Whole x [] ≡ get_or l x []
      row_behind x h =
          let i = x - (top + count) in
          let e : x ≡ length (take top l) + (length part + i) = omega (arith, front, long) in
          let f : top + (count + i) ≡ x = omega arith in
          ap (λ (y : ℕ). get_or Whole y []) e ∙ get_or-append-add (take top l) (part ++ drop count (drop top l)) (length part + i) [] ∙ get_or-append-add part (drop count (drop top l)) i []
          ∙ get_or-drop count (drop top l) i [] ∙ get_or-drop top l (count + i) [] ∙ rw f

-- ---- one block

-- a place that the index of the block does not have: in another row, or at another place of the row
abbrev Elsewhere : List ℕ → ℕ → ℕ → ℕ → Type 0
Elsewhere tables b x q =
    ((x < row_in tables b) ⊎ (row_in tables b + row_count_in tables b ≤ x)) ⊎ ((q < col_in tables b) ⊎ (col_in tables b + cols_in tables b ≤ q + 1))

module _ (matrix : List (List ℕ)) (tables : List ℕ) (index : List (List ℕ)) (b : ℕ) where
  abbrev part : List (List ℕ)
  part = filled_index (window_rows tables b index) (window_rows tables b matrix) (col_in tables b) (cols_in tables b)

  data Filled : Type 0 where
    left : filled_block matrix tables index b ≡ index → Filled
    filled : row_in tables b + row_count_in tables b ≤ length index → filled_block matrix tables index b ≡ replaced_rows tables b index part → Filled

  which : Filled
  unfolding filled_block
  which = go (truth (ltb 1 (cols_in tables b) && (leb (row_in tables b + row_count_in tables b) (length index) && leb (row_in tables b + row_count_in tables b) (length matrix))))
    where
      go : Truth (ltb 1 (cols_in tables b) && (leb (row_in tables b + row_count_in tables b) (length index) && leb (row_in tables b + row_count_in tables b) (length matrix))) → Filled
      go (holds t) =
          filled (leb-true (row_in tables b + row_count_in tables b) (length index) (and_left (leb (row_in tables b + row_count_in tables b) (length index)) (leb (row_in tables b + row_count_in tables b) (length matrix)) (and_right (ltb 1 (cols_in tables b)) (leb (row_in tables b + row_count_in tables b) (length index) && leb (row_in tables b + row_count_in tables b) (length matrix)) t)))
          (rw t)
      go (fails t) = left (rw t)

  module _ (inside : row_in tables b + row_count_in tables b ≤ length index) where
    part_tall : length part ≡ row_count_in tables b
    part_tall =
        filled_tall (window_rows tables b index) (window_rows tables b matrix) (col_in tables b) (cols_in tables b) ∙ window_tall (row_in tables b) (row_count_in tables b) index inside

    windows_long : RowsLong index → RowsLong (window_rows tables b index)
    windows_long long r l =
        let tall = window_tall (row_in tables b) (row_count_in tables b) index inside in
        rw (window_at (row_in tables b) (row_count_in tables b) index r (omega (arith, tall))) (long (row_in tables b + r) (omega (arith, tall)))

  pub block_tall : length (filled_block matrix tables index b) ≡ length index
  block_tall = go which
    where
      go : Filled → length (filled_block matrix tables index b) ≡ length index
      go (left e) = ap length e
      go (filled inside e) = ap length e ∙ replaced_tall (row_in tables b) (row_count_in tables b) index inside part (part_tall inside)

  module _ (long : RowsLong index) where
    pub block_keeps : (x q : ℕ) → Elsewhere tables b x q → get_or (get_or (filled_block matrix tables index b) x []) q 0 ≡ get_or (get_or index x []) q 0
    block_keeps x q out = go which
      where
        at_row : (inside : row_in tables b + row_count_in tables b ≤ length index) → Elsewhere tables b x q
            → (x < row_in tables b) ⊎ (row_in tables b ≤ x) → (x < row_in tables b + row_count_in tables b) ⊎ (row_in tables b + row_count_in tables b ≤ x)
            → get_or (get_or (replaced_rows tables b index part) x []) q 0 ≡ get_or (get_or index x []) q 0
        at_row inside o (inl h) _ = ap (λ (row : List ℕ). get_or row q 0) (row_before (row_in tables b) (row_count_in tables b) index inside part (part_tall inside) x h)
        at_row inside o (inr h) (inr k) = ap (λ (row : List ℕ). get_or row q 0) (row_behind (row_in tables b) (row_count_in tables b) index inside part (part_tall inside) x k)
        at_row inside (inl (inl o)) (inr h) (inl k) = absurd (omega arith)
        at_row inside (inl (inr o)) (inr h) (inl k) = absurd (omega arith)
        at_row inside (inr o) (inr h) (inl k) =
            let r = x - row_in tables b in
            let e : row_in tables b + r ≡ x = omega arith in
            ap (λ (row : List ℕ). get_or row q 0) (ap (λ (y : ℕ). get_or (replaced_rows tables b index part) y []) (sym e)
            ∙ row_here (row_in tables b) (row_count_in tables b) index inside part (part_tall inside) r (omega arith))
            ∙ filled_keeps (window_rows tables b index) (window_rows tables b matrix) (col_in tables b) (cols_in tables b) (windows_long inside long) r q o
            ∙ ap (λ (row : List ℕ). get_or row q 0) (window_at (row_in tables b) (row_count_in tables b) index r (omega arith) ∙ ap (λ (y : ℕ). get_or index y []) e)

        go : Filled → get_or (get_or (filled_block matrix tables index b) x []) q 0 ≡ get_or (get_or index x []) q 0
        go (left e) = rw e
        go (filled inside e) = rw e (at_row inside out (split_at x (row_in tables b)) (split_at x (row_in tables b + row_count_in tables b)))

    pub block_long : RowsLong (filled_block matrix tables index b)
    block_long = go which
      where
        at_row : (inside : row_in tables b + row_count_in tables b ≤ length index) (x : ℕ) → x < length index
            → (x < row_in tables b) ⊎ (row_in tables b ≤ x) → (x < row_in tables b + row_count_in tables b) ⊎ (row_in tables b + row_count_in tables b ≤ x)
            → length (get_or (replaced_rows tables b index part) x []) ≡ index_row_places
        at_row inside x l (inl h) _ = rw (row_before (row_in tables b) (row_count_in tables b) index inside part (part_tall inside) x h) (long x l)
        at_row inside x l (inr h) (inr k) = rw (row_behind (row_in tables b) (row_count_in tables b) index inside part (part_tall inside) x k) (long x l)
        at_row inside x l (inr h) (inl k) =
            let r = x - row_in tables b in
            let e : x ≡ row_in tables b + r = omega arith in
            rw (e, row_here (row_in tables b) (row_count_in tables b) index inside part (part_tall inside) r (omega arith))
            (filled_long (window_rows tables b index) (window_rows tables b matrix) (col_in tables b) (cols_in tables b) (windows_long inside long) r (omega (arith, part_tall inside)))

        go : Filled → RowsLong (filled_block matrix tables index b)
        go (left e) = rw e long
        go (filled inside e) = λ x l. rw e (at_row inside x (omega (arith, block_tall)) (split_at x (row_in tables b)) (split_at x (row_in tables b + row_count_in tables b)))

    pub block_held : row_in tables b + row_count_in tables b ≤ length index → row_in tables b + row_count_in tables b ≤ length matrix → 1 ≤ cols_in tables b → col_in tables b + cols_in tables b ≤ row_places
        → (r : ℕ) → r < row_count_in tables b
        → HeldAt (get_or (filled_block matrix tables index b) (row_in tables b + r) []) (col_in tables b) (held_from (lengths_in (get_or matrix (row_in tables b + r) [])) (col_in tables b) (cols_in tables b))
    unfolding filled_block
    block_held inside beside some fits r l i h =
        let row = get_or matrix (row_in tables b + r) [] in
        let more : 1 < cols_in tables b = omega (arith, the_places (lengths_in row) (col_in tables b) (cols_in tables b)) in
        let tall = window_tall (row_in tables b) (row_count_in tables b) index inside in
        let tall' = window_tall (row_in tables b) (row_count_in tables b) matrix beside in
        let indexed = filled_indexed (window_rows tables b index) (window_rows tables b matrix) (col_in tables b) (cols_in tables b) (tall ∙ sym tall') (windows_long inside long) some fits in
        let held : HeldAt (get_or part r []) (col_in tables b) (held_from (lengths_in row) (col_in tables b) (cols_in tables b))
        = rw (window_at (row_in tables b) (row_count_in tables b) matrix r l) at (indexed.held r (omega (arith, tall'))) in
        rw (
          lt-ltb 1 (cols_in tables b) more,
          le-leb (row_in tables b + row_count_in tables b) (length index) inside,
          le-leb (row_in tables b + row_count_in tables b) (length matrix) beside,
          row_here (row_in tables b) (row_count_in tables b) index inside part (part_tall inside) r l,
        )
        (held i h)

-- ---- one block, as the program fills it

module _ (matrix : List (List ℕ)) (tables : List ℕ) (index : List (List ℕ)) (b : ℕ) where
  pub block_narrow : cols_in tables b < 2 → index ≡ filled_block matrix tables index b
  unfolding filled_block
  block_narrow h = rw (le-ltb 1 (cols_in tables b) (omega arith))

  module _ (more : 2 ≤ cols_in tables b) where
    pub index_left : length index < row_in tables b + row_count_in tables b → index ≡ filled_block matrix tables index b
    unfolding filled_block
    index_left h = rw (lt-ltb 1 (cols_in tables b) more, lt-leb (row_in tables b + row_count_in tables b) (length index) h)

    module _ (inside : row_in tables b + row_count_in tables b ≤ length index) where
      pub matrix_left : length matrix < row_in tables b + row_count_in tables b → index ≡ filled_block matrix tables index b
      unfolding filled_block
      matrix_left h =
          rw (lt-ltb 1 (cols_in tables b) more, le-leb (row_in tables b + row_count_in tables b) (length index) inside, lt-leb (row_in tables b + row_count_in tables b) (length matrix) h)

      -- n rows are lent, and come back
      pub block_filled : row_in tables b + row_count_in tables b ≤ length matrix → (n : ℕ) (back : List (List ℕ)) → n ≡ row_count_in tables b
          → back ≡ filled_index (take n (drop (row_in tables b) index)) (take n (drop (row_in tables b) matrix)) (col_in tables b) (cols_in tables b)
          → take (row_in tables b) index ++ (back ++ drop n (drop (row_in tables b) index)) ≡ filled_block matrix tables index b
      unfolding filled_block
      block_filled beside n back e f =
          rw (f, e, lt-ltb 1 (cols_in tables b) more, le-leb (row_in tables b + row_count_in tables b) (length index) inside, le-leb (row_in tables b + row_count_in tables b) (length matrix) beside)

-- ---- all blocks

pub none_tall : length no_index ≡ vertex_places
none_tall = length-replicate {A = List ℕ} vertex_places (replicate {A = ℕ} index_row_places 0)

pub none_long : RowsLong no_index
none_long r l = ap length (get_or-replicate vertex_places r (replicate {A = ℕ} index_row_places 0) [] (omega (arith, none_tall))) ∙ length-replicate {A = ℕ} index_row_places 0

module _ (p : ℕ) (sizes vertices lengths : List ℕ) (fits : Fits p sizes vertices) (index : List (List ℕ)) (tall : length index ≡ vertex_places) (long : RowsLong index) where
  abbrev tables : List ℕ
  tables = tables_of p sizes vertices

  abbrev up_to : ℕ → List (List ℕ)
  up_to n = filled_up_to (matrix_of lengths) tables index n

  up_to_tall : (n : ℕ) → length (up_to n) ≡ vertex_places
  unfolding filled_up_to
  up_to_tall zero = tall
  up_to_tall (suc n) = block_tall (matrix_of lengths) tables (up_to n) n ∙ up_to_tall n

  up_to_long : (n : ℕ) → RowsLong (up_to n)
  unfolding filled_up_to
  up_to_long zero = long
  up_to_long (suc n) = block_long (matrix_of lengths) tables (up_to n) n (up_to_long n)

  -- the rows of a block
  rows_inside : (b : ℕ) → b < length (placements_of p sizes) → b < max_blocks → row_in tables b + row_count_in tables b ≤ vertex_places
  rows_inside b l few =
      let s = numbers_same p sizes vertices b few in
      rw (s.row, s.row_count, rows_are p sizes vertices lengths fits b l) (rows_in_lem p sizes vertices lengths fits b l)

  -- the index of one block does not have the places of another's
  apart_from : (b c : ℕ) → b < length (placements_of p sizes) → b < max_blocks → c < max_blocks → b ≢ c
      → (r i : ℕ) → r < row_count_in tables b → i + 1 < cols_in tables b → Elsewhere tables c (row_in tables b + r) (col_in tables b + i)
  apart_from b c l few few' differ r i h k = go (split_at c (length (placements_of p sizes))) (split_at x (row_in tables c)) (split_at x (row_in tables c + row_count_in tables c))
    where
      x : ℕ
      x = row_in tables b + r

      of_b : NumbersSame tables (parts_of p sizes) b
      of_b = numbers_same p sizes vertices b few

      of_c : NumbersSame tables (parts_of p sizes) c
      of_c = numbers_same p sizes vertices c few'

      go : (c < length (placements_of p sizes)) ⊎ (length (placements_of p sizes) ≤ c) → (x < row_in tables c) ⊎ (row_in tables c ≤ x)
          → (x < row_in tables c + row_count_in tables c) ⊎ (row_in tables c + row_count_in tables c ≤ x) → Elsewhere tables c x (col_in tables b + i)
      go _ (inl o) _ = inl (inl o)
      go _ (inr _) (inr o) = inl (inr o)
      go (inr past) (inr _) (inl _) = inr (none (split_at (col_in tables b + i) (col_in tables c)))
        where
          none : (col_in tables b + i < col_in tables c) ⊎ (col_in tables c ≤ col_in tables b + i) → (col_in tables b + i < col_in tables c) ⊎ (col_in tables c + cols_in tables c ≤ col_in tables b + i + 1)
          none (inl o) = inl o
          none (inr o) = inr (omega (arith, of_c.cols, no_block p sizes fits.pieces_in c past few'))
      go (inl here) (inr low) (inl high) =
          inr (side (columns_apart p sizes fits.pieces_in b c x (omega (arith, of_b.row)) (omega (arith, of_b.row, of_b.row_count)) (omega (arith, of_c.row)) (omega (arith, of_c.row, of_c.row_count)) l here differ))
        where
          side : Apart (col_in (parts_of p sizes) b) (cols_in (parts_of p sizes) b) (col_in (parts_of p sizes) c) (cols_in (parts_of p sizes) c)
              → (col_in tables b + i < col_in tables c) ⊎ (col_in tables c + cols_in tables c ≤ col_in tables b + i + 1)
          side (inl o) = inl (omega (arith, of_b.col, of_b.cols, of_c.col))
          side (inr o) = inr (omega (arith, of_b.col, of_c.col, of_c.cols))

  -- the rows of block b hold its index after the first n blocks
  abbrev Held : ℕ → ℕ → Type 0
  Held n b = (r : ℕ) → r < row_count_in tables b → HeldAt (get_or (up_to n) (row_in tables b + r) []) (col_in tables b) (held_from (lengths_in (get_or (matrix_of lengths) (row_in tables b + r) [])) (col_in tables b) (cols_in tables b))

  newest : (b : ℕ) → b < length (placements_of p sizes) → b < max_blocks → Held (suc b) b
  unfolding filled_up_to
  newest b l few =
      let s = numbers_same p sizes vertices b few in
      let inside = rows_inside b l few in
      block_held (matrix_of lengths) tables (up_to b) b (up_to_long b) (omega (arith, up_to_tall b)) (omega (arith, matrix_long lengths)) (rw s.cols (sides_in p sizes vertices lengths fits b l).0)
      (rw (s.col, s.cols) (cols_in_lem p sizes vertices lengths fits b l))

  up_to_held : (n b : ℕ) → n ≤ max_blocks → b < n → b < length (placements_of p sizes) → Held n b
  unfolding filled_up_to
  up_to_held zero b few l in_all r h i k = absurd (omega arith)
  up_to_held (suc n) b few l in_all r h i k = go (λ before. up_to_held n b (omega arith) before in_all r h i k) (below_suc b n l)
    where
      row : List ℕ
      row = get_or (matrix_of lengths) (row_in tables b + r) []

      go : (b < n → get_or (get_or (up_to n) (row_in tables b + r) []) (col_in tables b + i) 0
          ≡ get_or (held_from (lengths_in (get_or (matrix_of lengths) (row_in tables b + r) [])) (col_in tables b) (cols_in tables b)) i 0)
          → (b < n) ⊎ (b ≡ n)
          → get_or (get_or (filled_block (matrix_of lengths) tables (up_to n) n) (row_in tables b + r) []) (col_in tables b + i) 0
          ≡ get_or (held_from (lengths_in (get_or (matrix_of lengths) (row_in tables b + r) [])) (col_in tables b) (cols_in tables b)) i 0
      go ih (inl before) =
          block_keeps (matrix_of lengths) tables (up_to n) n (up_to_long n) (row_in tables b + r) (col_in tables b + i)
          (apart_from b n in_all (omega arith) (omega arith) (λ e. omega arith) r i h (omega (arith, the_places (lengths_in row) (col_in tables b) (cols_in tables b))))
          ∙ ih before
      go ih (inr last) = rw (← last) (newest b in_all (omega arith) r h i k)

  pub blocks_indexed : (b : ℕ) → b < length (placements_of p sizes) → b < max_blocks
      → Indexed (window_rows tables b (filled_blocks index (matrix_of lengths) tables)) (window_rows tables b (matrix_of lengths)) (col_in tables b) (cols_in tables b)
  unfolding filled_blocks
  blocks_indexed b l few =
      let all = up_to_tall max_blocks in
      let inside = rows_inside b l few in
      let deep = window_tall (row_in tables b) (row_count_in tables b) (up_to max_blocks) (omega (arith, all)) in
      let deep' = window_tall (row_in tables b) (row_count_in tables b) (matrix_of lengths) (omega (arith, matrix_long lengths)) in
      rw (eq-eqb (length index) vertex_places tall, eq-eqb (length (matrix_of lengths)) vertex_places (matrix_long lengths), eq-eqb (length tables) table_count (tables_count p sizes vertices))
      (record {
        tall = deep ∙ sym deep';
        held = λ r h.
            let m : r < row_count_in tables b = omega (arith, deep') in
            rw (window_at (row_in tables b) (row_count_in tables b) (up_to max_blocks) r m, window_at (row_in tables b) (row_count_in tables b) (matrix_of lengths) r m)
            (up_to_held max_blocks b (le_refl max_blocks) few l r m);
      })

  pub blocks_tall : length (filled_blocks index (matrix_of lengths) tables) ≡ vertex_places
  unfolding filled_blocks
  blocks_tall =
      rw (eq-eqb (length index) vertex_places tall, eq-eqb (length (matrix_of lengths)) vertex_places (matrix_long lengths), eq-eqb (length tables) table_count (tables_count p sizes vertices))
      (up_to_tall max_blocks)
