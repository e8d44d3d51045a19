-- The index of some columns of each row of an array, held in an array of rows: what filling leaves, and what is asked of one row.
--   lengths_in                    the lengths of a row
--   held_from HeldAt              the index of neighbouring columns; numbers that stand from a place on
--   filled_row each_row fill_rows filled_index    what filling leaves
--   Indexed                      an array of rows holds the index of those columns
--   least_column                  what is asked of one row
-- The index of the columns from col0 on stands at the places from col0 on. So the indices of columns that do not meet stand beside each other in one row.
use Rattle.std.specs.Prelude.{◌≡◌, cond, ◌&&◌, List, [], ◌∷◌, map, ℕ, ◌+◌, ◌-◌, ◌<◌, eqb, ltb, leb, get_or, length}
use Rattle.definitions.specs.Limits.{row_places}
use Rattle.definitions.specs.Blocks.{splits}
use Rattle.definitions.specs.Index.{column_of, held_at, ask}
use Rattle.basics.specs.Buffers.{put}

abbrev pub lengths_in : List ℕ → ℕ → ℕ
lengths_in row c = get_or row c 0

-- the index of the k columns from s on; of a whole row it is `row_index`
unfoldable pub held_from : (ℕ → ℕ) → ℕ → ℕ → List ℕ
held_from row s k = map (held_at row) (splits k s k)

abbrev pub HeldAt : List ℕ → ℕ → List ℕ → Type 0
HeldAt held p xs = (i : ℕ) → i < length xs → get_or held (p + i) 0 ≡ get_or xs i 0

-- in one row, from place p on
unfoldable pub filled_row : List ℕ → List ℕ → ℕ → ℕ → ℕ → List ℕ
filled_row held row p s k = put held p (held_from (lengths_in row) s k)

-- in each row: what becomes of the rows of an array, each beside a row of another; rows that stand beside none stay
unfoldable pub each_row : (List ℕ → List ℕ → List ℕ) → List (List ℕ) → List (List ℕ) → List (List ℕ)
each_row f [] rows = []
each_row f (held ∷ index) [] = held ∷ index
each_row f (held ∷ index) (row ∷ rows) = f held row ∷ each_row f index rows

unfoldable pub fill_rows : List (List ℕ) → List (List ℕ) → ℕ → ℕ → ℕ → List (List ℕ)
fill_rows index rows p s k = each_row (λ held row. filled_row held row p s k) index rows

-- what a lent array becomes; one of another number of rows, and columns that leave the row, leave it as it is
unfoldable pub filled_index : List (List ℕ) → List (List ℕ) → ℕ → ℕ → List (List ℕ)
filled_index index rows col0 cols = cond (eqb (length index) (length rows) && leb (col0 + cols) row_places) (fill_rows index rows col0 col0 cols) index

-- each row of `index` holds the index of the columns from col0 on of the row beside it
pub record Indexed (index rows : List (List ℕ)) (col0 cols : ℕ) : Type 0 where
  pub tall : length index ≡ length rows
  pub held : (r : ℕ) → r < length rows → HeldAt (get_or index r []) col0 (held_from (lengths_in (get_or rows r [])) col0 cols)

-- The lowest column of least length from `first` up to `end` of the columns from col0 on, counted from col0; 0 where these leave the row, and for a
-- stretch that is empty or leaves them.
unfoldable pub least_column : List ℕ → List ℕ → ℕ → ℕ → ℕ → ℕ → ℕ
least_column row held col0 cols first end =
    cond (leb (col0 + cols) row_places && (ltb first end && leb end cols))
    (column_of (ask cols (lengths_in row) held (col0 + first) (col0 + end) col0 col0 cols) - col0)
    0
