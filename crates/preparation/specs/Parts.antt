-- What the six numbers of a block say of it.
--   slot_is row_is col_is cols_is last_is row_count_is   each number, by the block's placement
--   row_at                                              the first row of block j of piece d
--   parts_long matrix_long                              how long the arrays are
--   block_count block_at_lem block_of_lem placed                the blocks of the network, by their numbers
--   slots_rise slots_apart slots_end                    the words of different heaps do not meet, and end within all words
--   entry_is rows_in_lem cols_in_lem cols_are rows_are sides_in a block is a window of the matrix
--   row_vertex_is column_is                             where the vertices of its rows and of its columns stand
--   block_piece block_places block_length               its piece, and where its entries stand
use Rattle.std.specs.Prelude.{◌≡◌, refl, true, ◌⊎◌, ◌≢◌, List, [], ◌∷◌, map, ℕ, zero, suc, pred, ◌+◌, ◌-◌, ◌*◌, ◌/◌, ◌≤◌, ◌<◌, leb, length, take, drop}
use Rattle.std.proofs.Common.{sym, ap, ◌∙◌, inl, inr, le_refl, leb-true, get_or-append-add, take-suc, take-add, drop-drop}
use native.Mathlib.Omega.{arith}
use Rattle.std.proofs.Math.ListN.{get_or, get_or-append}
use Rattle.std.proofs.lemmas.List.{length-map}
use Rattle.std.proofs.Math.Seq.{take-length, get_or-drop}
use Rattle.definitions.specs.Limits.{max_pieces, max_size, vertex_places, row_places, table_places}
use Rattle.definitions.specs.Lists.{all, every, total, up_from, padded, Every}
use Rattle.definitions.specs.Network.{entry, no_piece}
use Rattle.definitions.specs.Blocks.{splits, splits_of, windows, windows_of, no_block, block_of, blocks}
use Rattle.definitions.specs.Judgement.{piece_at, pieces_of}
use Rattle.definitions.proofs.Laws.Members.{every_is, all_at}
use Rattle.logic.specs.Tests.{split_at}
use Rattle.basics.specs.ListLaws.{every_at, length_padded}
use Rattle.splits.specs.Windows.{Inside}
use Rattle.splits.proofs.Windows.{windows_inside}
use Rattle.monge.specs.PieceTables.{entry_in}
use Rattle.monge.specs.Matrix.{at, rows_in}
use Rattle.basics.specs.Sequences.{get_or_each, length_up_from, map_at}
use Rattle.basics.specs.PiecePlaces.{block_rows, block_cols, row_vertex, col_vertex, entry_at}
use Rattle.definitions.specs.HeapWords.{heap_words}
use Rattle.preparation.specs.Prepared.{size_at, matrix_entry, matrix_row, matrix_of, Placement, place, placements_of, words, words_of, row_of, col_of, last_of, numbers, numbers_from, part_numbers, part_places, piece_words, max_words, parts_of, slot_in, row_in, col_in, cols_in, last_in, row_count_in, blocks_up_to}
use Rattle.preparation.specs.Numbers.{length_numbers, words_append}
use Rattle.preparation.specs.Placements.{size_small, length_up_to, blocks_few, length_windows_of, words_few}
use Rattle.preparation.specs.Numbering.{Fits, no_window, no_placement, size_is, block_at, blocks_are, number_in, placement_at, numbered}
use Rattle.preparation.specs.PlaceTable.{vertex_at}

-- ---- each number

length_six : (slot : ℕ) (x : Placement) → length (numbers slot x) ≡ part_numbers
unfolding numbers
length_six slot x = refl

number_at : (xs : List Placement) (slot b t : ℕ) → b < length xs → t < part_numbers
    → get_or (numbers_from slot xs) (part_numbers * b + t) 0 ≡ get_or (numbers (slot + words_of (take b xs)) (get_or xs b no_placement)) t 0
unfolding numbers_from words_of total
number_at [] slot b t l r = absurd (omega arith)
number_at (x ∷ xs) slot zero t l r =
    let e : part_numbers * 0 + t ≡ t = omega arith in
    let f : slot + 0 ≡ slot = omega arith in
    rw (e, f) (get_or-append (numbers slot x) (numbers_from (slot + words x) xs) 0 t (omega (arith, length_six slot x)))
number_at (x ∷ xs) slot (suc b) t l r =
    let e : part_numbers * suc b + t ≡ length (numbers slot x) + (part_numbers * b + t) = omega (arith, length_six slot x) in
    let f : slot + (words x + total (map words (take b xs))) ≡ slot + words x + total (map words (take b xs)) = omega arith in
    rw (e, f) (get_or-append-add (numbers slot x) (numbers_from (slot + words x) xs) (part_numbers * b + t) 0 ∙ number_at xs (slot + words x) b t (omega arith) r)

module _ (p : ℕ) (sizes : List ℕ) (b : ℕ) (l : b < length (placements_of p sizes)) where
  part_at : (t : ℕ) → t < part_numbers
      → get_or (parts_of p sizes) (part_numbers * b + t) 0 ≡ get_or (numbers (words_of (take b (placements_of p sizes))) (get_or (placements_of p sizes) b no_placement)) t 0
  unfolding parts_of padded
  part_at t r =
      let xs = placements_of p sizes in
      let e : 0 + words_of (take b xs) ≡ words_of (take b xs) = omega arith in
      get_or-append (numbers_from 0 xs) _ 0 (part_numbers * b + t) (omega (arith, length_numbers 0 xs)) ∙ number_at xs 0 b t l r ∙ rw e

  pub slot_is : slot_in (parts_of p sizes) b ≡ words_of (take b (placements_of p sizes))
  unfolding numbers
  slot_is = let e : part_numbers * b + 0 ≡ part_numbers * b = omega arith in rw e at (part_at 0 (omega arith))

  pub row_is : row_in (parts_of p sizes) b ≡ row_of (get_or (placements_of p sizes) b no_placement)
  unfolding numbers
  row_is = part_at 1 (omega arith)

  pub col_is : col_in (parts_of p sizes) b ≡ col_of (get_or (placements_of p sizes) b no_placement)
  unfolding numbers
  col_is = part_at 2 (omega arith)

  pub cols_is : cols_in (parts_of p sizes) b ≡ (get_or (placements_of p sizes) b no_placement).window.cols
  unfolding numbers
  cols_is = part_at 3 (omega arith)

  pub last_is : last_in (parts_of p sizes) b ≡ last_of (get_or (placements_of p sizes) b no_placement)
  unfolding numbers
  last_is = part_at 4 (omega arith)

  pub row_count_is : row_count_in (parts_of p sizes) b ≡ (get_or (placements_of p sizes) b no_placement).window.rows
  unfolding numbers
  row_count_is = part_at 5 (omega arith)

-- block j of piece d
pub row_at : (p : ℕ) (sizes : List ℕ) (d j : ℕ) → d < max_pieces → j < 2 * pred (size_at p sizes d)
    → row_in (parts_of p sizes) (blocks_up_to p sizes d + j) ≡ row_places * d + (get_or (windows_of (size_at p sizes d)) j no_window).row0
row_at p sizes d j l r = row_is p sizes (blocks_up_to p sizes d + j) (number_in p sizes d j l r) ∙ ap row_of (placement_at p sizes d j l r)

-- ---- how long the arrays are

pub parts_long : (p : ℕ) (sizes : List ℕ) → length (parts_of p sizes) ≡ part_places
unfolding parts_of placements_of
parts_long p sizes =
    length_padded part_places 0 (numbers_from 0 (placements_of p sizes)) (omega (arith, length_numbers 0 (placements_of p sizes), length_up_to p sizes max_pieces, blocks_few p sizes max_pieces))

pub matrix_long : (lengths : List ℕ) → length (matrix_of lengths) ≡ vertex_places
unfolding matrix_of
matrix_long lengths = length-map (up_from 0 vertex_places) (matrix_row lengths) ∙ length_up_from 0 vertex_places

-- an entry of the matrix
matrix_at : (lengths : List ℕ) (r k : ℕ) → r < vertex_places → k < row_places → at (matrix_of lengths) r k ≡ matrix_entry lengths r k
unfolding matrix_of matrix_row
matrix_at lengths r k l h = rw (get_or_each (matrix_row lengths) vertex_places r [] l) (get_or_each (matrix_entry lengths r) row_places k 0 h)

-- every block has a column
wide_tested : all (λ m. every (λ w. leb 1 w.cols) (windows_of m)) (suc max_size) ≡ true
unfolding all every windows_of windows splits_of splits
wide_tested = refl

windows_wide : (m : ℕ) → m ≤ max_size → Every (λ w. 1 ≤ w.cols) (windows_of m)
windows_wide m small =
    every_is (λ w. leb 1 w.cols) (λ w. 1 ≤ w.cols) (λ w. leb-true 1 w.cols) (windows_of m)
    (all_at (λ m. every (λ w. leb 1 w.cols) (windows_of m)) (suc max_size) wide_tested m (omega arith))

-- ---- the words of the heaps

module _ (xs : List Placement) where
  words_rise : (n k : ℕ) → words_of (take n xs) ≤ words_of (take (n + k) xs)
  words_rise n k = rw (take-add n k xs) (omega (arith, words_append (take n xs) (take k (drop n xs))))

  words_next : (b : ℕ) → b < length xs → words_of (take (suc b) xs) ≡ words_of (take b xs) + words (get_or xs b no_placement)
  unfolding words_of total
  words_next b l =
      rw (take-suc xs b no_placement l) (words_append (take b xs) (get_or xs b no_placement ∷ []) ∙ (let e : words (get_or xs b no_placement) + 0 ≡ words (get_or xs b no_placement) = omega arith in rw e))

  words_below : (b c : ℕ) → b < c → b < length xs → words_of (take b xs) + words (get_or xs b no_placement) ≤ words_of (take c xs)
  words_below b c l r =
      let e : c ≡ suc b + (c - suc b) = omega arith in
      rw e (omega (arith, words_next b r, words_rise (suc b) (c - suc b)))

module _ (p : ℕ) (sizes : List ℕ) where
  pub slots_rise : (b c : ℕ) → b < c → c < length (placements_of p sizes) → slot_in (parts_of p sizes) b + heap_words (cols_in (parts_of p sizes) b) ≤ slot_in (parts_of p sizes) c
  slots_rise b c l r =
      let h : b < length (placements_of p sizes) = omega arith in
      rw (slot_is p sizes b h, slot_is p sizes c r, cols_is p sizes b h) (words_below (placements_of p sizes) b c l h)

  pub slots_apart : (b c : ℕ) → b < length (placements_of p sizes) → c < length (placements_of p sizes) → b ≢ c
      → (slot_in (parts_of p sizes) b + heap_words (cols_in (parts_of p sizes) b) ≤ slot_in (parts_of p sizes) c)
      ⊎ (slot_in (parts_of p sizes) c + heap_words (cols_in (parts_of p sizes) c) ≤ slot_in (parts_of p sizes) b)
  slots_apart b c l r q = go (split_at b c)
    where
      go : (b < c) ⊎ (c ≤ b) → (slot_in (parts_of p sizes) b + heap_words (cols_in (parts_of p sizes) b) ≤ slot_in (parts_of p sizes) c)
          ⊎ (slot_in (parts_of p sizes) c + heap_words (cols_in (parts_of p sizes) c) ≤ slot_in (parts_of p sizes) b)
      go (inl h) = inl (slots_rise b c h r)
      go (inr h) = inr (slots_rise c b (omega arith) l)

  pub slots_end : (b : ℕ) → b < length (placements_of p sizes) → slot_in (parts_of p sizes) b + heap_words (cols_in (parts_of p sizes) b) ≤ max_words
  unfolding placements_of
  slots_end b l =
      let xs = placements_of p sizes in
      let few : words_of xs ≤ piece_words * max_pieces = words_few p sizes max_pieces in
      let all : words_of (take (length xs) xs) ≤ words_of xs = rw (take-length xs) (le_refl (words_of xs)) in
      rw (slot_is p sizes b l, cols_is p sizes b l) (omega (arith, few, all, words_below xs b (length xs) l l))

  -- ---- a block's placement

  -- a piece of the network, and places of that piece
  pub record Placed (x : Placement) : Type 0 where
    pub piece_in_lem : x.piece < p
    pub inside : Inside (size_at p sizes x.piece) x.window
    pub some : 1 ≤ x.window.cols

  pub placed : p ≤ max_pieces → (b : ℕ) → b < length (placements_of p sizes) → Placed (get_or (placements_of p sizes) b no_placement)
  placed h b l =
      let n = numbered p sizes b l in
      let m = size_at p sizes n.piece in
      let small = size_small p sizes n.piece in
      let e : get_or (placements_of p sizes) b no_placement ≡ place n.piece (get_or (windows_of m) n.window no_window)
      = ap (λ (c : ℕ). get_or (placements_of p sizes) c no_placement) n.number ∙ placement_at p sizes n.piece n.window (omega (arith, n.piece_in_lem)) n.window_in_lem in
      rw e (record {
        piece_in_lem = n.piece_in_lem;
        inside = every_at (Inside m) (windows_of m) (windows_inside m small) n.window no_window (omega (arith, length_windows_of m small, n.window_in_lem));
        some = every_at (λ w. 1 ≤ w.cols) (windows_of m) (windows_wide m small) n.window no_window (omega (arith, length_windows_of m small, n.window_in_lem));
      })

-- ---- the blocks of the network

module _ (p : ℕ) (sizes vertices lengths : List ℕ) (fits : Fits p sizes vertices) where
  pub block_count : length (blocks (pieces_of p sizes vertices lengths)) ≡ length (placements_of p sizes)
  block_count = rw (blocks_are p sizes vertices lengths fits) (length-map (placements_of p sizes) (block_at sizes vertices lengths))

  pub block_at_lem : (b : ℕ) → b < length (placements_of p sizes) → get_or (blocks (pieces_of p sizes vertices lengths)) b no_block ≡ block_at sizes vertices lengths (get_or (placements_of p sizes) b no_placement)
  block_at_lem b l = rw (blocks_are p sizes vertices lengths fits) (map_at (block_at sizes vertices lengths) (placements_of p sizes) b no_placement no_block l)

  pub block_of_lem : (d j : ℕ) → d < p → j < 2 * pred (size_at p sizes d)
      → get_or (blocks (pieces_of p sizes vertices lengths)) (blocks_up_to p sizes d + j) no_block
      ≡ block_of (suc d) (get_or (pieces_of p sizes vertices lengths) d no_piece) (get_or (windows_of (size_at p sizes d)) j no_window)
  unfolding pieces_of
  block_of_lem d j l r =
      let few : d < max_pieces = omega (arith, fits.pieces_in) in
      block_at_lem (blocks_up_to p sizes d + j) (number_in p sizes d j few r)
      ∙ rw (placement_at p sizes d j few r, get_or_each (piece_at sizes vertices lengths) p d no_piece l)

  -- ---- entries

  -- the table of a piece
  table_is : (d : ℕ) → d < p → (piece_at sizes vertices lengths d).rows ≡ rows_in (size_at p sizes d) (drop (table_places * d) lengths)
  unfolding piece_at rows_in
  table_is d l = rw (size_is p sizes vertices lengths fits d l) (simp drop-drop)

  -- the length from place i to place j of a piece
  length_at : (d i j : ℕ) → d < p → i < size_at p sizes d → j < size_at p sizes d
      → entry (piece_at sizes vertices lengths d) i j ≡ get_or lengths (row_places * (row_places * d + i) + j) 0
  unfolding entry
  length_at d i j l r h =
      let e : table_places * d + (row_places * i + j) ≡ row_places * (row_places * d + i) + j = omega arith in
      rw (table_is d l) (entry_in (size_at p sizes d) (drop (table_places * d) lengths) i j r h ∙ get_or-drop (table_places * d) lengths (row_places * i + j) 0 ∙ rw e)

  module _ (x : Placement) (h : Placed p sizes x) where
    size_few : size_at p sizes x.piece ≤ max_size
    size_few = size_small p sizes x.piece

    vertex_placed : (j : ℕ) → j < size_at p sizes x.piece → get_or (piece_at sizes vertices lengths x.piece).vertices j 0 ≡ get_or vertices (row_places * x.piece + j) 0
    vertex_placed = vertex_at p sizes vertices lengths fits x.piece h.piece_in_lem

    entry_placed : (i k : ℕ) → i < x.window.rows → k < x.window.cols
        → (block_at sizes vertices lengths x).lengths i k ≡ at (matrix_of lengths) (row_of x + i) (col_of x + k)
    entry_placed i k l r =
        let w = x.window in
        let j = w.col0 + (w.cols - 1 - k) in
        let e : row_places * (row_places * x.piece + (w.row0 + i)) + j ≡ row_places * (row_of x + i) + (row_places - 1 - (col_of x + k)) = omega (arith, h.inside.cols_in_lem, size_few) in
        entry_at (suc x.piece) (piece_at sizes vertices lengths x.piece) w i k l r
        ∙ length_at x.piece (w.row0 + i) j h.piece_in_lem (omega (arith, h.inside.rows_in)) (omega (arith, h.inside.cols_in_lem))
        ∙ rw e (sym (matrix_at lengths (row_of x + i) (col_of x + k) (omega (arith, h.inside.rows_in, size_few, h.piece_in_lem, fits.pieces_in)) (omega (arith, h.inside.cols_in_lem, size_few))))

    row_placed : (i : ℕ) → i < x.window.rows → get_or (block_at sizes vertices lengths x).rows i 0 ≡ get_or vertices (row_of x + i) 0
    row_placed i r =
        let j = x.window.row0 + i in
        let e : row_places * x.piece + j ≡ row_of x + i = omega arith in
        row_vertex (suc x.piece) (piece_at sizes vertices lengths x.piece) x.window i r ∙ vertex_placed j (omega (arith, h.inside.rows_in)) ∙ rw e

    column_placed : (k : ℕ) → k < x.window.cols → get_or (block_at sizes vertices lengths x).cols k 0 ≡ get_or vertices (last_of x - k) 0
    column_placed k r =
        let w = x.window in
        let j = w.col0 + (w.cols - 1 - k) in
        let e : row_places * x.piece + j ≡ last_of x - k = omega arith in
        col_vertex (suc x.piece) (piece_at sizes vertices lengths x.piece) w k r ∙ vertex_placed j (omega (arith, h.inside.cols_in_lem)) ∙ rw e

  -- ---- by the block's number

  module _ (b : ℕ) (l : b < length (placements_of p sizes)) where
    pub rows_in_lem : row_in (parts_of p sizes) b + length (get_or (blocks (pieces_of p sizes vertices lengths)) b no_block).rows ≤ vertex_places
    rows_in_lem =
        let x = get_or (placements_of p sizes) b no_placement in
        let h = placed p sizes fits.pieces_in b l in
        rw (row_is p sizes b l, block_at_lem b l, block_rows (suc x.piece) (piece_at sizes vertices lengths x.piece) x.window)
        (omega (arith, h.inside.rows_in, size_few x h, h.piece_in_lem, fits.pieces_in))

    pub cols_in_lem : col_in (parts_of p sizes) b + cols_in (parts_of p sizes) b ≤ row_places
    cols_in_lem =
        let x = get_or (placements_of p sizes) b no_placement in
        let h = placed p sizes fits.pieces_in b l in
        rw (col_is p sizes b l, cols_is p sizes b l) (omega (arith, h.inside.cols_in_lem, size_few x h))

    pub cols_are : cols_in (parts_of p sizes) b ≡ length (get_or (blocks (pieces_of p sizes vertices lengths)) b no_block).cols
    cols_are =
        let x = get_or (placements_of p sizes) b no_placement in
        rw (cols_is p sizes b l, block_at_lem b l, block_cols (suc x.piece) (piece_at sizes vertices lengths x.piece) x.window)

    pub rows_are : row_count_in (parts_of p sizes) b ≡ length (get_or (blocks (pieces_of p sizes vertices lengths)) b no_block).rows
    rows_are =
        let x = get_or (placements_of p sizes) b no_placement in
        rw (row_count_is p sizes b l, block_at_lem b l, block_rows (suc x.piece) (piece_at sizes vertices lengths x.piece) x.window)

    pub sides_in : (1 ≤ cols_in (parts_of p sizes) b) × (row_count_in (parts_of p sizes) b ≤ max_size)
    sides_in =
        let x = get_or (placements_of p sizes) b no_placement in
        let h = placed p sizes fits.pieces_in b l in
        rw (cols_is p sizes b l, row_count_is p sizes b l) (h.some, omega (arith, h.inside.rows_in, size_few x h))

    pub entry_is : (i k : ℕ) → i < length (get_or (blocks (pieces_of p sizes vertices lengths)) b no_block).rows → k < cols_in (parts_of p sizes) b
        → (get_or (blocks (pieces_of p sizes vertices lengths)) b no_block).lengths i k ≡ at (matrix_of lengths) (row_in (parts_of p sizes) b + i) (col_in (parts_of p sizes) b + k)
    entry_is i k r s =
        let x = get_or (placements_of p sizes) b no_placement in
        let h = placed p sizes fits.pieces_in b l in
        let r' : i < x.window.rows = rw (block_at_lem b l, block_rows (suc x.piece) (piece_at sizes vertices lengths x.piece) x.window) at r in
        rw (row_is p sizes b l, col_is p sizes b l, block_at_lem b l) (entry_placed x h i k r' (rw (cols_is p sizes b l) at s))

    -- the piece of a block, by the place of one of its rows; the place of an entry among the lent lengths, by those of its row and its column
    pub block_piece : (i : ℕ) → i < length (get_or (blocks (pieces_of p sizes vertices lengths)) b no_block).rows
        → (get_or (blocks (pieces_of p sizes vertices lengths)) b no_block).piece ≡ suc ((row_in (parts_of p sizes) b + i) / row_places)
    unfolding block_at block_of
    block_piece i r =
        let x = get_or (placements_of p sizes) b no_placement in
        let h = placed p sizes fits.pieces_in b l in
        let r' : i < x.window.rows = rw (block_at_lem b l, block_rows (suc x.piece) (piece_at sizes vertices lengths x.piece) x.window) at r in
        let d : (row_of x + i) / row_places ≡ x.piece = omega (arith, h.inside.rows_in, size_few x h) in
        rw (row_is p sizes b l, block_at_lem b l, d)

    -- the places of a row and of a column are those of one piece
    pub block_places : (i k : ℕ) → i < length (get_or (blocks (pieces_of p sizes vertices lengths)) b no_block).rows → k < cols_in (parts_of p sizes) b
        → let first = row_places * ((row_in (parts_of p sizes) b + i) / row_places) in
        (first ≤ last_in (parts_of p sizes) b - k) × (last_in (parts_of p sizes) b - k < first + row_places)
    block_places i k r s =
        let x = get_or (placements_of p sizes) b no_placement in
        let h = placed p sizes fits.pieces_in b l in
        let r' : i < x.window.rows = rw (block_at_lem b l, block_rows (suc x.piece) (piece_at sizes vertices lengths x.piece) x.window) at r in
        let s' : k < x.window.cols = rw (cols_is p sizes b l) at s in
        let d : (row_of x + i) / row_places ≡ x.piece = omega (arith, h.inside.rows_in, size_few x h) in
        rw (row_is p sizes b l, last_is p sizes b l, d) (omega (arith, h.inside.cols_in_lem, size_few x h), omega (arith, h.inside.cols_in_lem, size_few x h))

    pub block_length : (i k : ℕ) → i < length (get_or (blocks (pieces_of p sizes vertices lengths)) b no_block).rows → k < cols_in (parts_of p sizes) b
        → let at = row_in (parts_of p sizes) b + i in
        (get_or (blocks (pieces_of p sizes vertices lengths)) b no_block).lengths i k ≡ get_or lengths (row_places * at + (last_in (parts_of p sizes) b - k - row_places * (at / row_places))) 0
    block_length i k r s =
        let x = get_or (placements_of p sizes) b no_placement in
        let h = placed p sizes fits.pieces_in b l in
        let r' : i < x.window.rows = rw (block_at_lem b l, block_rows (suc x.piece) (piece_at sizes vertices lengths x.piece) x.window) at r in
        let s' : k < x.window.cols = rw (cols_is p sizes b l) at s in
        let w = x.window in
        let j = w.col0 + (w.cols - 1 - k) in
        let e : row_places * (row_places * x.piece + (w.row0 + i)) + j ≡ row_places * (row_of x + i) + (last_of x - k - row_places * ((row_of x + i) / row_places)) = omega (arith, h.inside.rows_in, h.inside.cols_in_lem, size_few x h) in
        rw (row_is p sizes b l, last_is p sizes b l, block_at_lem b l)
        (entry_at (suc x.piece) (piece_at sizes vertices lengths x.piece) w i k r' s'
        ∙ length_at x.piece (w.row0 + i) j h.piece_in_lem (omega (arith, h.inside.rows_in)) (omega (arith, h.inside.cols_in_lem)) ∙ ap (λ (m : ℕ). get_or lengths m 0) e)

    pub row_vertex_is : (i : ℕ) → i < length (get_or (blocks (pieces_of p sizes vertices lengths)) b no_block).rows
        → get_or (get_or (blocks (pieces_of p sizes vertices lengths)) b no_block).rows i 0 ≡ get_or vertices (row_in (parts_of p sizes) b + i) 0
    row_vertex_is i r =
        let x = get_or (placements_of p sizes) b no_placement in
        let r' : i < x.window.rows = rw (block_at_lem b l, block_rows (suc x.piece) (piece_at sizes vertices lengths x.piece) x.window) at r in
        rw (row_is p sizes b l, block_at_lem b l) (row_placed x (placed p sizes fits.pieces_in b l) i r')

    pub column_is : (k : ℕ) → k < cols_in (parts_of p sizes) b → get_or (get_or (blocks (pieces_of p sizes vertices lengths)) b no_block).cols k 0 ≡ get_or vertices (last_in (parts_of p sizes) b - k) 0
    column_is k s =
        let x = get_or (placements_of p sizes) b no_placement in
        let h = placed p sizes fits.pieces_in b l in
        rw (last_is p sizes b l, block_at_lem b l) (column_placed x h k (rw (cols_is p sizes b l) at s))
