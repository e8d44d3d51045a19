-- The lent lengths of a rectangle as 24 rows of 24.
--   grid_row grid length_grid    the rows
--   grid_entry                  they hold the rectangle
use Rattle.std.specs.Prelude.{◌≡◌, List, [], map, ℕ, ◌<◌, length}
use Rattle.std.proofs.lemmas.List.{length-map}
use Rattle.definitions.specs.Limits.{max_side, row_places}
use Rattle.definitions.specs.Lists.{up_from}
use Rattle.definitions.specs.Entries.{rectangle_of}
use Rattle.monge.specs.Matrix.{at}
use Rattle.basics.specs.Sequences.{length_up_from, get_or_each}

unfoldable pub grid_row : List ℕ → ℕ → List ℕ
grid_row lengths i = map (rectangle_of lengths i) (up_from 0 row_places)

unfoldable pub grid : List ℕ → List (List ℕ)
grid lengths = map (grid_row lengths) (up_from 0 max_side)

pub length_grid : (lengths : List ℕ) → length (grid lengths) ≡ max_side
unfolding grid
length_grid lengths = rw (length-map (up_from 0 max_side) (grid_row lengths)) (length_up_from 0 max_side)

pub grid_entry : (lengths : List ℕ) (i k : ℕ) → i < max_side → k < row_places → at (grid lengths) i k ≡ rectangle_of lengths i k
unfolding grid grid_row
grid_entry lengths i k l r = rw (get_or_each (grid_row lengths) max_side i [] l) (get_or_each (rectangle_of lengths i) row_places k 0 r)
