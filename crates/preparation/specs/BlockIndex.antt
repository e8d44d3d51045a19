-- The index of the rows of all blocks, in one array with a row for each row of the matrix.
--   no_index                                 before it is filled
--   window_rows replaced_rows                 the rows of a block among all rows
--   filled_block filled_up_to filled_blocks     what filling leaves, for one block, for some, for all
use Rattle.std.specs.Prelude.{cond, ◌&&◌, List, ◌++◌, ℕ, zero, suc, ◌+◌, eqb, ltb, leb, length, take, drop, replicate}
use Rattle.definitions.specs.Limits.{vertex_places, index_row_places}
use Rattle.index.specs.HeldRows.{filled_index}
use Rattle.preparation.specs.Prepared.{row_in, col_in, cols_in, row_count_in, max_blocks, table_count}

-- nothing is filled yet
abbrev pub no_index : List (List ℕ)
no_index = replicate vertex_places (replicate index_row_places 0)

-- the rows of block b; the array with other rows in their place
abbrev pub window_rows : List ℕ → ℕ → List (List ℕ) → List (List ℕ)
window_rows tables b rows = take (row_count_in tables b) (drop (row_in tables b) rows)

abbrev pub replaced_rows : List ℕ → ℕ → List (List ℕ) → List (List ℕ) → List (List ℕ)
replaced_rows tables b rows part = take (row_in tables b) rows ++ (part ++ drop (row_count_in tables b) (drop (row_in tables b) rows))

-- One column needs no index. A block whose rows leave the arrays is left out.
unfoldable pub filled_block : List (List ℕ) → List ℕ → List (List ℕ) → ℕ → List (List ℕ)
filled_block matrix tables index b =
    cond (ltb 1 (cols_in tables b) && (leb (row_in tables b + row_count_in tables b) (length index) && leb (row_in tables b + row_count_in tables b) (length matrix)))
    (replaced_rows tables b index (filled_index (window_rows tables b index) (window_rows tables b matrix) (col_in tables b) (cols_in tables b)))
    index

-- the first n blocks, one after the other
unfoldable pub filled_up_to : List (List ℕ) → List ℕ → List (List ℕ) → ℕ → List (List ℕ)
filled_up_to matrix tables index zero = index
filled_up_to matrix tables index (suc n) = filled_block matrix tables (filled_up_to matrix tables index n) n

-- what a lent array becomes; arrays of another size leave it as it is
unfoldable pub filled_blocks : List (List ℕ) → List (List ℕ) → List ℕ → List (List ℕ)
filled_blocks index matrix tables =
    cond (eqb (length index) vertex_places && (eqb (length matrix) vertex_places && eqb (length tables) table_count))
    (filled_up_to matrix tables index max_blocks)
    index
