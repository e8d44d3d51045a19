-- What the labelling prepares: the main statements, each in full, with its proof in the file that it cites.
--   the_count first_block block_of_piece row_of_piece every_block    the numbers of the blocks
--   words_apart words_end                               the words of the heaps
--   the_window the_sides the_entry                      a block is a window of the matrix
--   row_vertex column_vertex_lem                            where the vertices of a block stand
--   first_place next_place                              the places of a vertex, linked
--   the_numbers the_others                              all of these in the one array of tables
--   the_piece first_window second_window first_half_lem second_half_lem    the blocks of a place, by the halving
--   its_row no_row no_vertex elsewhere                  who is a row of a block
--   the_index                                           the rows of each block hold its index
-- Blocks are numbered from 0 here, pieces too. `Fits p sizes vertices` says that there are at most 16 pieces, none larger than 24, and that
-- the buffer of the vertices has its size.
use Rattle.std.specs.Prelude.{◌≡◌, ◌⊎◌, ◌≢◌, List, ℕ, suc, pred, ◌+◌, ◌-◌, ◌*◌, ◌/◌, ◌≤◌, ◌<◌, get_or, length, take, drop}
use Rattle.std.proofs.Common.{◌∙◌, arith}
use Rattle.std.proofs.Math.Option.{none, some}
use Rattle.definitions.specs.Limits.{max_vertices, max_pieces, max_size, row_places, vertex_places}
use Rattle.definitions.specs.Network.{Piece, size_of, no_piece}
use Rattle.definitions.specs.Blocks.{Window, windows_of, Block, no_block, block_of, blocks}
use Rattle.definitions.specs.Labelling.{place_of}
use Rattle.definitions.specs.Judgement.{pieces_of}
use Rattle.definitions.specs.HeapWords.{heap_words}
use Rattle.basics.specs.ListLaws.{Different}
use Rattle.monge.specs.Matrix.{at}
use Rattle.preparation.specs.Prepared.{size_at, matrix_of, parts_of, slot_in, row_in, col_in, cols_in, last_in, row_count_in, max_blocks, max_words, placements_of, firsts_of, tables_of, start_in, next_in, first_in, size_in, vertex_in}
use Rattle.preparation.specs.Placements.{length_up_to, blocks_few}
use Rattle.preparation.specs.Numbering.{Fits, no_window, first_is, firsts_are, Numbered, numbered}
use Rattle.preparation.specs.PlaceTable.{StandsAt, Next, all_linked}
use Rattle.preparation.specs.Parts.{block_count, block_of_lem, row_at, slots_apart, slots_end, rows_in_lem, cols_in_lem, cols_are, rows_are, sides_in, entry_is, row_vertex_is, column_is}
use Rattle.preparation.specs.Tables.{NumbersSame, numbers_same, start_in_lem, next_in_lem, first_in_lem, size_in_lem, vertex_in_lem}
use Rattle.preparation.specs.Stretches.{forth, back, Stretch, stretch_whole, stretch_first, stretch_second, stretch_left, stretch_right}
use Rattle.index.specs.HeldRows.{Indexed}
use Rattle.preparation.specs.BlockIndex.{no_index, filled_blocks}
use Rattle.preparation.specs.FilledBlocks.{none_tall, none_long, blocks_indexed, blocks_tall}
use Rattle.preparation.specs.BlockRows.{row_inside, row_outside, row_absent, row_elsewhere}

-- block b of the network
abbrev pub block_no : ℕ → List ℕ → List ℕ → List ℕ → ℕ → Block
block_no p sizes vertices lengths b = get_or (blocks (pieces_of p sizes vertices lengths)) b no_block

-- ---- numbers

module _ (p : ℕ) (sizes vertices lengths : List ℕ) (fits : Fits p sizes vertices) where
  pub the_count : length (blocks (pieces_of p sizes vertices lengths)) ≤ max_blocks
  unfolding placements_of
  the_count = omega (arith, block_count p sizes vertices lengths fits, length_up_to p sizes max_pieces, blocks_few p sizes max_pieces)

  -- The first blocks: for piece d how many blocks the pieces before it have.
  pub first_block : (d : ℕ) → d < p → get_or (firsts_of p sizes) d 0 ≡ length (blocks (take d (pieces_of p sizes vertices lengths)))
  first_block d l = firsts_are p sizes d (omega (arith, fits.pieces_in)) ∙ first_is p sizes vertices lengths fits d (omega arith)

  -- From there on stand the blocks of the piece, in the order of its windows.
  pub block_of_piece : (d j : ℕ) → d < p → j < 2 * pred (size_at p sizes d)
      → block_no p sizes vertices lengths (get_or (firsts_of p sizes) d 0 + j)
      ≡ block_of (suc d) (get_or (pieces_of p sizes vertices lengths) d no_piece) (get_or (windows_of (size_at p sizes d)) j no_window)
  block_of_piece d j l r = rw (firsts_are p sizes d (omega (arith, fits.pieces_in))) (block_of_lem p sizes vertices lengths fits d j l r)

  pub row_of_piece : (d j : ℕ) → d < p → j < 2 * pred (size_at p sizes d)
      → row_in (parts_of p sizes) (get_or (firsts_of p sizes) d 0 + j) ≡ row_places * d + (get_or (windows_of (size_at p sizes d)) j no_window).row0
  row_of_piece d j l r = rw (firsts_are p sizes d (omega (arith, fits.pieces_in))) (row_at p sizes d j (omega (arith, fits.pieces_in)) r)

  -- Every block is one of those.
  pub every_block : (b : ℕ) → b < length (blocks (pieces_of p sizes vertices lengths)) → Numbered p sizes b
  every_block b l = numbered p sizes b (omega (arith, block_count p sizes vertices lengths fits))

  -- ---- words

  -- The words of two heaps do not meet.
  pub words_apart : (b c : ℕ) → b < length (blocks (pieces_of p sizes vertices lengths)) → c < length (blocks (pieces_of p sizes vertices lengths)) → b ≢ c
      → (slot_in (parts_of p sizes) b + heap_words (cols_in (parts_of p sizes) b) ≤ slot_in (parts_of p sizes) c)
      ⊎ (slot_in (parts_of p sizes) c + heap_words (cols_in (parts_of p sizes) c) ≤ slot_in (parts_of p sizes) b)
  words_apart b c l r q = slots_apart p sizes b c (omega (arith, block_count p sizes vertices lengths fits)) (omega (arith, block_count p sizes vertices lengths fits)) q

  module _ (b : ℕ) (l : b < length (blocks (pieces_of p sizes vertices lengths))) where
    -- a block's number, as the files below count
    number : b < length (placements_of p sizes)
    number = omega (arith, block_count p sizes vertices lengths fits)

    pub words_end : slot_in (parts_of p sizes) b + heap_words (cols_in (parts_of p sizes) b) ≤ max_words
    words_end = slots_end p sizes b number

    -- ---- the window of the matrix

    pub the_window : (row_in (parts_of p sizes) b + length (block_no p sizes vertices lengths b).rows ≤ vertex_places)
        × (col_in (parts_of p sizes) b + cols_in (parts_of p sizes) b ≤ row_places)
        × (cols_in (parts_of p sizes) b ≡ length (block_no p sizes vertices lengths b).cols)
        × (row_count_in (parts_of p sizes) b ≡ length (block_no p sizes vertices lengths b).rows)
    the_window = (
      rows_in_lem p sizes vertices lengths fits b number,
      cols_in_lem p sizes vertices lengths fits b number,
      cols_are p sizes vertices lengths fits b number,
      rows_are p sizes vertices lengths fits b number,
    )

    pub the_sides : (1 ≤ cols_in (parts_of p sizes) b) × (row_count_in (parts_of p sizes) b ≤ max_size)
    the_sides = sides_in p sizes vertices lengths fits b number

    pub the_entry : (i k : ℕ) → i < length (block_no p sizes vertices lengths b).rows → k < length (block_no p sizes vertices lengths b).cols
        → (block_no p sizes vertices lengths b).lengths i k ≡ at (matrix_of lengths) (row_in (parts_of p sizes) b + i) (col_in (parts_of p sizes) b + k)
    the_entry i k r s = entry_is p sizes vertices lengths fits b number i k r (rw (cols_are p sizes vertices lengths fits b number) s)

    -- ---- vertices

    pub row_vertex : (i : ℕ) → i < length (block_no p sizes vertices lengths b).rows
        → get_or (block_no p sizes vertices lengths b).rows i 0 ≡ get_or vertices (row_in (parts_of p sizes) b + i) 0
    row_vertex = row_vertex_is p sizes vertices lengths fits b number

    pub column_vertex_lem : (k : ℕ) → k < length (block_no p sizes vertices lengths b).cols
        → get_or (block_no p sizes vertices lengths b).cols k 0 ≡ get_or vertices (last_in (parts_of p sizes) b - k) 0
    column_vertex_lem k r = column_is p sizes vertices lengths fits b number k (rw (cols_are p sizes vertices lengths fits b number) r)

-- ---- the one array

module _ (p : ℕ) (sizes vertices : List ℕ) where
  -- Block b has the numbers that are stored for it.
  the_numbers : (b : ℕ) → b < max_blocks → NumbersSame (tables_of p sizes vertices) (parts_of p sizes) b
  the_numbers = numbers_same p sizes vertices

  -- The places of a vertex are linked: its own word names its first place, and the word of a place at which it stands names its next place.
  pub first_place : (v : ℕ) → 1 ≤ v → v ≤ max_vertices → Next p sizes vertices v 0 (start_in (tables_of p sizes vertices) v)
  first_place v l h = rw (start_in_lem p sizes vertices v l h) ((all_linked p sizes vertices).starts v l h)

  pub next_place : (v x : ℕ) → 1 ≤ v → v ≤ max_vertices → StandsAt p sizes vertices v x → Next p sizes vertices v (suc x) (next_in (tables_of p sizes vertices) x)
  next_place v x l h s = rw (next_in_lem p sizes vertices x s.inside) ((all_linked p sizes vertices).nexts v x l h (omega arith) s)

  -- The first block and the size of a piece, the vertex of a place.
  the_others : ((d : ℕ) → d < max_pieces → first_in (tables_of p sizes vertices) d ≡ get_or (firsts_of p sizes) d 0)
      × ((d : ℕ) → d < max_pieces → size_in (tables_of p sizes vertices) d ≡ size_at p sizes d)
      × ((i : ℕ) → i < vertex_places → vertex_in (tables_of p sizes vertices) i ≡ get_or vertices i 0)
  the_others = (first_in_lem p sizes vertices, size_in_lem p sizes vertices, vertex_in_lem p sizes vertices)

-- ---- the index

-- Filled into an array of zeros, the index of the rows of all blocks holds for each block that of its columns.
module _ (p : ℕ) (sizes vertices lengths : List ℕ) (fits : Fits p sizes vertices) where
  abbrev tables : List ℕ
  tables = tables_of p sizes vertices

  pub the_index : (b : ℕ) → b < length (blocks (pieces_of p sizes vertices lengths))
      → Indexed (take (row_count_in tables b) (drop (row_in tables b) (filled_blocks no_index (matrix_of lengths) tables))) (take (row_count_in tables b) (drop (row_in tables b) (matrix_of lengths)))
      (col_in tables b) (cols_in tables b)
  the_index b l =
      blocks_indexed p sizes vertices lengths fits no_index none_tall none_long b (omega (arith, block_count p sizes vertices lengths fits)) (omega (arith, the_count p sizes vertices lengths fits))

  pub index_tall : length (filled_blocks no_index (matrix_of lengths) tables) ≡ vertex_places
  index_tall = blocks_tall p sizes vertices lengths fits no_index none_tall none_long

-- ---- the halving

-- `Stretch ws s start k`: the windows from number s on, 2 (k - 1) of them, are those of the k places from `start` on.
the_piece : (m : ℕ) → Stretch (windows_of m) 0 0 m
the_piece = stretch_whole

module _ (ws : List Window) (s start k : ℕ) (h : Stretch ws s start k) (l : 2 ≤ k) where
  -- `forth`: rows are the first half, columns the rest; `back`: rows are the rest, columns the first half
  first_window : get_or ws s no_window ≡ forth start k
  first_window = stretch_first ws s start k h l

  second_window : get_or ws (s + 1) no_window ≡ back start k
  second_window = stretch_second ws s start k h l

  first_half_lem : Stretch ws (s + 2) start (k / 2)
  first_half_lem = stretch_left ws s start k h l

  second_half_lem : Stretch ws (s + 2 * (k / 2)) (start + k / 2) (k - k / 2)
  second_half_lem = stretch_right ws s start k h l

-- ---- rows

module _ (d : ℕ) (q : Piece) (w : Window) (inside : w.row0 + w.rows ≤ size_of q) where
  -- a vertex at place i of the piece
  its_row : Different q.vertices → (v i : ℕ) → i < size_of q → get_or q.vertices i 0 ≡ v → w.row0 ≤ i → i < w.row0 + w.rows
      → place_of v 0 (block_of d q w).rows ≡ some (i - w.row0)
  its_row = row_inside d q w inside

  no_row : Different q.vertices → (v i : ℕ) → i < size_of q → get_or q.vertices i 0 ≡ v → (i < w.row0) ⊎ (w.row0 + w.rows ≤ i)
      → place_of v 0 (block_of d q w).rows ≡ none
  no_row = row_outside d q w inside

  -- a vertex that the piece does not have
  no_vertex : (v : ℕ) → ((i : ℕ) → i < size_of q → get_or q.vertices i 0 ≢ v) → place_of v 0 (block_of d q w).rows ≡ none
  no_vertex = row_absent d q w inside

-- A place outside a stretch is a row of none of its blocks.
elsewhere : (d : ℕ) (q : Piece) (s start k : ℕ) → size_of q ≤ max_size → Stretch (windows_of (size_of q)) s start k → Different q.vertices
    → (v i : ℕ) → i < size_of q → get_or q.vertices i 0 ≡ v → (i < start) ⊎ (start + k ≤ i)
    → (j : ℕ) → j < 2 * pred k → place_of v 0 (block_of d q (get_or (windows_of (size_of q)) (s + j) no_window)).rows ≡ none
elsewhere = row_elsewhere
