-- What the labelling prepares from a lent network, in the places that its loop reads.
--   size_at                                             the size of piece d
--   matrix_entry matrix_row matrix_of filled_matrix        the tables, one below the other, each row backwards
--   store_place store_places places_from places_of         the places of each vertex, linked
--   Placement piece_placements placements_of             the blocks of all pieces by places, in their order
--   words words_of numbers numbers_from Stored parts_of   six numbers for each block
--   piece_blocks max_blocks part_places max_words          how many blocks there are at most, and how many words their heaps have
--   slot_in row_in col_in cols_in last_in row_count_in        which number is which
--   blocks_up_to firsts_of                                the number of a piece's first block
--   sizes_of vertices_of                                 the network's own numbers
--   places_at .. table_count tables_of filled_tables       all of these tables in one array, and where each of them begins
--   start_in next_in first_in size_in vertex_in             what stands there
use Rattle.std.specs.Prelude.{◌≡◌, cond, ◌&&◌, List, [], ◌∷◌, ◌++◌, map, ℕ, zero, suc, pred, ◌+◌, ◌-◌, ◌*◌, eqb, leb, ltb, get_or, set, length, replicate}
use Rattle.std.proofs.lemmas.List.Edits.{sets}
use Rattle.definitions.specs.Limits.{max_vertices, max_pieces, max_size, vertex_places, length_places, row_places}
use Rattle.definitions.specs.Lists.{total, up_from, padded, within}
use Rattle.definitions.specs.Blocks.{Split, Window, windows, windows_of}
use Rattle.definitions.specs.HeapWords.{head_words, place_words, heap_words}

-- 0 for a piece that the network does not have, and for a size above 24: such a piece has no vertex, no row and no block
unfoldable pub size_at : ℕ → List ℕ → ℕ → ℕ
size_at p sizes d = cond (ltb d p && leb (get_or sizes d 0) max_size) (get_or sizes d 0) 0

-- ---- the matrix

-- row r is row r of the lent lengths with all its places, backwards; row 24d + i is row i of piece d
abbrev pub matrix_entry : List ℕ → ℕ → ℕ → ℕ
matrix_entry lengths r k = get_or lengths (row_places * r + (row_places - 1 - k)) 0

unfoldable pub matrix_row : List ℕ → ℕ → List ℕ
matrix_row lengths r = map (matrix_entry lengths r) (up_from 0 row_places)

unfoldable pub matrix_of : List ℕ → List (List ℕ)
matrix_of lengths = map (matrix_row lengths) (up_from 0 vertex_places)

-- what a lent array of rows becomes; lengths of another number, and an array of another size, leave it as it is
unfoldable pub filled_matrix : List (List ℕ) → List ℕ → List (List ℕ)
filled_matrix before lengths = cond (eqb (length before) vertex_places && eqb (length lengths) length_places) (matrix_of lengths) before

-- ---- the places of the vertices

-- the places of each vertex, linked: one word for each vertex, its first place, and one for each place x = 24d + i, the next place of its vertex; each is
-- 1 + a place, and 0 says that there is none
abbrev pub place_count : ℕ
place_count = max_vertices + vertex_places

-- v stands at place x, which comes before the places that v has so far
unfoldable pub store_place : ℕ → ℕ → List ℕ → List ℕ
store_place x v xs = cond (within max_vertices v) (set (set xs (max_vertices + x) (get_or xs (v - 1) 0)) (v - 1) (suc x)) xs

-- the number among all places of the k-th place before the last one of piece d, of size m
abbrev pub place_before : ℕ → ℕ → ℕ → ℕ
place_before d m k = row_places * d + (m - 1 - k)

-- the last k places of piece d, of size m, from the last one on
unfoldable pub store_places : List ℕ → ℕ → ℕ → List ℕ → ℕ → List ℕ
store_places vertices d m xs zero = xs
store_places vertices d m xs (suc k) = store_place (place_before d m k) (get_or vertices (place_before d m k) 0) (store_places vertices d m xs k)

-- the last k of 16 pieces, from the last one on
unfoldable pub places_from : ℕ → List ℕ → List ℕ → ℕ → List ℕ
places_from p sizes vertices zero = replicate place_count 0
places_from p sizes vertices (suc k) =
    store_places vertices (max_pieces - 1 - k) (size_at p sizes (max_pieces - 1 - k)) (places_from p sizes vertices k) (size_at p sizes (max_pieces - 1 - k))

unfoldable pub places_of : ℕ → List ℕ → List ℕ → List ℕ
places_of p sizes vertices = places_from p sizes vertices max_pieces

-- ---- the blocks

-- a block: its piece, and its places there
pub record Placement : Type 0 where
  pub piece : ℕ
  pub window : Window

abbrev pub place : ℕ → Window → Placement
place d w = record { piece = d; window = w }

-- the two blocks of a split of piece d; the blocks of that piece, of size m; those of the first d pieces, in the order of the blocks
unfoldable pub split_placements : ℕ → Split → List Placement
split_placements d c = map (place d) (windows (c ∷ []))

unfoldable pub piece_placements : ℕ → ℕ → List Placement
piece_placements d m = map (place d) (windows_of m)

unfoldable pub placements_up_to : ℕ → List ℕ → ℕ → List Placement
placements_up_to p sizes zero = []
placements_up_to p sizes (suc d) = placements_up_to p sizes d ++ piece_placements d (size_at p sizes d)

unfoldable pub placements_of : ℕ → List ℕ → List Placement
placements_of p sizes = placements_up_to p sizes max_pieces

-- how many words the heap of a block has
abbrev pub words : Placement → ℕ
words x = heap_words x.window.cols

unfoldable pub words_of : List Placement → ℕ
words_of xs = total (map words xs)

-- its first row and its first column in the matrix, where the vertex of its column 0 stands
abbrev pub row_of : Placement → ℕ
row_of x = row_places * x.piece + x.window.row0

abbrev pub col_of : Placement → ℕ
col_of x = row_places - (x.window.col0 + x.window.cols)

abbrev pub last_of : Placement → ℕ
last_of x = row_places * x.piece + (x.window.col0 + x.window.cols - 1)

-- the numbers of a block whose heap begins at a word
unfoldable pub numbers : ℕ → Placement → List ℕ
numbers slot x = slot ∷ row_of x ∷ col_of x ∷ x.window.cols ∷ last_of x ∷ x.window.rows ∷ []

-- the numbers of blocks, the heap of the first of them at a word: each heap begins where the one before it ends
unfoldable pub numbers_from : ℕ → List Placement → List ℕ
numbers_from slot [] = []
numbers_from slot (x ∷ xs) = numbers slot x ++ numbers_from (slot + words x) xs

-- a piece of m places has m - 1 splits, and each gives two blocks
abbrev pub piece_blocks : ℕ
piece_blocks = 2 * (max_size - 1)

abbrev pub max_blocks : ℕ
max_blocks = max_pieces * piece_blocks

-- the numbers of a block, and of all blocks
abbrev pub part_numbers : ℕ
part_numbers = 6

abbrev pub part_places : ℕ
part_places = part_numbers * max_blocks

-- the columns of all blocks of a piece of 24 places: no piece has more (law `piece_words_lem`)
abbrev pub piece_columns : ℕ
piece_columns = 112

-- the words of the heaps of a piece, and of all heaps
abbrev pub piece_words : ℕ
piece_words = head_words * piece_blocks + place_words * piece_columns

abbrev pub max_words : ℕ
max_words = max_pieces * piece_words

-- the two blocks of a split have at most 24 columns together
abbrev pub split_words : ℕ
split_words = 2 * head_words + place_words * max_size

-- what storing blocks from block b on, with their heaps from the word `slot` on, leaves of the numbers; `last` is the word after their heaps
pub record Stored (before after : List ℕ) (b slot last : ℕ) (xs : List Placement) : Type 0 where
  pub stored : after ≡ sets before (part_numbers * b) (numbers_from slot xs)
  pub end : last ≡ slot + words_of xs

unfoldable pub parts_of : ℕ → List ℕ → List ℕ
parts_of p sizes = padded part_places 0 (numbers_from 0 (placements_of p sizes))

-- the numbers of block b, from 0
abbrev pub slot_in : List ℕ → ℕ → ℕ
slot_in parts b = get_or parts (part_numbers * b) 0

abbrev pub row_in : List ℕ → ℕ → ℕ
row_in parts b = get_or parts (part_numbers * b + 1) 0

abbrev pub col_in : List ℕ → ℕ → ℕ
col_in parts b = get_or parts (part_numbers * b + 2) 0

abbrev pub cols_in : List ℕ → ℕ → ℕ
cols_in parts b = get_or parts (part_numbers * b + 3) 0

abbrev pub last_in : List ℕ → ℕ → ℕ
last_in parts b = get_or parts (part_numbers * b + 4) 0

abbrev pub row_count_in : List ℕ → ℕ → ℕ
row_count_in parts b = get_or parts (part_numbers * b + 5) 0

-- ---- the first block of a piece

-- how many blocks the first d pieces have
unfoldable pub blocks_up_to : ℕ → List ℕ → ℕ → ℕ
blocks_up_to p sizes zero = 0
blocks_up_to p sizes (suc d) = blocks_up_to p sizes d + 2 * pred (size_at p sizes d)

unfoldable pub firsts_of : ℕ → List ℕ → List ℕ
firsts_of p sizes = map (blocks_up_to p sizes) (up_from 0 max_pieces)

-- ---- all tables

-- the sizes of all pieces, and the vertices of all places
unfoldable pub sizes_of : ℕ → List ℕ → List ℕ
sizes_of p sizes = map (size_at p sizes) (up_from 0 max_pieces)

unfoldable pub vertices_of : List ℕ → List ℕ
vertices_of vertices = map (λ i. get_or vertices i 0) (up_from 0 vertex_places)

-- where each table begins; the numbers of the blocks begin at 0
abbrev pub places_at : ℕ
places_at = part_places

-- the words of the places, behind those of the vertices
abbrev pub nexts_at : ℕ
nexts_at = places_at + max_vertices

abbrev pub firsts_at : ℕ
firsts_at = places_at + place_count

abbrev pub sizes_at : ℕ
sizes_at = firsts_at + max_pieces

abbrev pub vertices_at : ℕ
vertices_at = sizes_at + max_pieces

abbrev pub table_count : ℕ
table_count = vertices_at + vertex_places

unfoldable pub tables_of : ℕ → List ℕ → List ℕ → List ℕ
tables_of p sizes vertices = parts_of p sizes ++ (places_of p sizes vertices ++ (firsts_of p sizes ++ (sizes_of p sizes ++ vertices_of vertices)))

-- what a lent array becomes; one of another size is left as it is
unfoldable pub filled_tables : List ℕ → ℕ → List ℕ → List ℕ → List ℕ
filled_tables before p sizes vertices = cond (eqb (length before) table_count) (tables_of p sizes vertices) before

-- 1 + the first place of vertex v, 1 + the place after x of the vertex that stands at x; 0 where there is none
abbrev pub start_in : List ℕ → ℕ → ℕ
start_in tables v = get_or tables (places_at + (v - 1)) 0

abbrev pub next_in : List ℕ → ℕ → ℕ
next_in tables x = get_or tables (nexts_at + x) 0

-- the first block and the size of piece d, the vertex of a place of all pieces
abbrev pub first_in : List ℕ → ℕ → ℕ
first_in tables d = get_or tables (firsts_at + d) 0

abbrev pub size_in : List ℕ → ℕ → ℕ
size_in tables d = get_or tables (sizes_at + d) 0

abbrev pub vertex_in : List ℕ → ℕ → ℕ
vertex_in tables i = get_or tables (vertices_at + i) 0
