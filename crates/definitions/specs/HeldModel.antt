-- Words that hold a model of the block that is lent.
--   lent_entry Checked    the block
--   is_reached Holds      the words hold the model's intervals and their bests, and which columns are reached; the labels those of its activated rows
use Rattle.std.specs.Prelude.{◌≡◌, Bool, true, false, cond, List, [], ℕ, ◌+◌, ◌≤◌, ◌<◌, get_or, length}
use Rattle.definitions.specs.Limits.{max_side, max_length, row_places}
use Rattle.definitions.specs.Lists.{count, Every}
use Rattle.definitions.specs.Metres.{IsNumber}
use Rattle.definitions.specs.Network.{Rectangle}
use Rattle.definitions.specs.Monge.{Monge}
use Rattle.definitions.specs.Best.{Best, nobody, by}
use Rattle.definitions.specs.Model.{Model, parent, intervals, best_in, Reached}
use Rattle.definitions.specs.HeapWords.{heap_words, count_of, reached_of, mark_at, interval_at, kept, best_at}

-- an entry of the block whose rows are lent, from column col0 on
unfoldable pub lent_entry : List (List ℕ) → ℕ → Rectangle
lent_entry rows col0 i k = get_or (get_or rows i []) (col0 + k) 0

-- The block that is lent: its rows are `rows`, its columns so many of theirs from col0 on. It fits its places, and it is Monge.
pub record Checked (rows : List (List ℕ)) (col0 cols : ℕ) : Type 0 where
  pub some : 0 < cols
  pub few : length rows ≤ max_side
  pub inside : col0 + cols ≤ row_places
  pub short : (i k : ℕ) → i < length rows → k < cols → IsNumber (lent_entry rows col0 i k) → lent_entry rows col0 i k ≤ max_length
  pub monge : Monge (lent_entry rows col0) (length rows) cols

-- A column is reached once it has a parent, and it stays so when it is extracted.
unfoldable pub is_reached : Best → Bool
is_reached nobody = false
is_reached (by p s) = true

-- The words w hold the model m of that block.
pub record Holds (w : List ℕ) (rows : List (List ℕ)) (col0 cols : ℕ) (labels : List ℕ) (m : Model) : Type 0 where
  pub checked : Checked rows col0 cols
  pub long : heap_words cols ≤ length w
  pub labelled : length rows ≤ length labels
  -- the intervals in the words are the model's in order, each once
  pub listed : kept w ≡ intervals (lent_entry rows col0) cols m
  -- each with its best
  pub bests : (k : ℕ) → k < count_of w → best_at w k ≡ best_in (lent_entry rows col0) m (interval_at w k)
  -- which columns are reached, and how many
  pub marked : (c : ℕ) → c < cols → mark_at w c ≡ cond (is_reached (parent (lent_entry rows col0) m.activated c)) 1 0
  pub reached_are : reached_of w ≡ count (λ c. is_reached (parent (lent_entry rows col0) m.activated c)) cols
  -- the label of each activated row lies at the row's place
  pub labels_at : Every (λ a. get_or labels a.row 0 ≡ a.label) m.activated
  -- the model is one that calls reach
  pub reached : Reached (lent_entry rows col0) (length rows) cols m
