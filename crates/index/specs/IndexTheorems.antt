-- The index: the main statements, each in full; the proof is cited.
--   the_halves                       the least of a stretch is the lesser of its two halves
--   the_places                       the index of k columns has k - 1 places
--   filled_tall filled_long          filling keeps the number of rows, and of the places of each
--   filled_keeps                     and the numbers at other places
--   filled_indexed                   what is filled holds the index
--   indexed_least                    an index as built gives the lowest column of least length of any stretch
--   as_built                         the same of a lent rectangle
--   always_inside                    of any numbers held, the answer is a column of the stretch
use Rattle.std.specs.Prelude.{◌≡◌, List, [], ◌⊎◌, ℕ, ◌+◌, ◌-◌, ◌/◌, ◌≤◌, ◌<◌, get_or, length}
use Rattle.definitions.specs.Limits.{row_places}
use Rattle.definitions.specs.Best.{by, lesser}
use Rattle.definitions.specs.Index.{least_in, IsLeast, ask}
use Rattle.definitions.specs.Entries.{build_index, ask_index}
use Rattle.definitions.specs.PlainPromises.{PlainLeast}
use Rattle.index.specs.HeldRows.{held_from, filled_index, Indexed, least_column}
use Rattle.index.specs.HeldLaws.{RowsLong}
use Rattle.index.specs.StretchHalves.{least_halves, length_held}
use Rattle.index.specs.Questions.{ask_among}
use Rattle.index.specs.FilledRows.{index_tall, index_long, index_keeps, index_held, index_least}
use Rattle.index.specs.IndexEntries.{built_least}

pub the_halves : (row : ℕ → ℕ) (s k : ℕ) → least_in row s k ≡ lesser (least_in row s (k / 2)) (least_in row (s + k / 2) (k - k / 2))
the_halves = least_halves

pub the_places : (row : ℕ → ℕ) (s k : ℕ) → length (held_from row s k) ≡ k - 1
the_places = length_held

module _ (index rows : List (List ℕ)) (col0 cols : ℕ) where
  pub filled_tall : length (filled_index index rows col0 cols) ≡ length index
  filled_tall = index_tall index rows col0 cols

  pub filled_long : RowsLong index → RowsLong (filled_index index rows col0 cols)
  filled_long = index_long index rows col0 cols

  -- the places of the index of the columns from col0 on are those from col0 on, one fewer than there are columns
  pub filled_keeps : RowsLong index → (r p : ℕ) → (p < col0) ⊎ (col0 + cols ≤ p + 1) → get_or (get_or (filled_index index rows col0 cols) r []) p 0 ≡ get_or (get_or index r []) p 0
  filled_keeps = index_keeps index rows col0 cols

  pub filled_indexed : length index ≡ length rows → RowsLong index → 1 ≤ cols → col0 + cols ≤ row_places → Indexed (filled_index index rows col0 cols) rows col0 cols
  filled_indexed tall long some fits = index_held index rows col0 cols long tall some fits

  pub indexed_least : Indexed index rows col0 cols → (r first end : ℕ) → r < length rows → col0 + cols ≤ row_places → first < end → end ≤ cols
      → IsLeast (λ c. get_or (get_or rows r []) (col0 + c) 0) first end (least_column (get_or rows r []) (get_or index r []) col0 cols first end)
  indexed_least indexed r first end row fits some inside = index_least (get_or rows r []) (get_or index r []) col0 cols first end (indexed.held r row) fits some inside

-- the same of an index as `build_index` leaves it, asked by `ask_index`
pub as_built : (rows cols : ℕ) (lengths before : List ℕ) → (build_index rows cols lengths before).number ≡ 0 → (index : List ℕ) → index ≡ (build_index rows cols lengths before).index
    → (i first end : ℕ) → PlainLeast rows cols lengths i first end (ask_index rows cols lengths index i first end)
as_built = built_least

-- Whatever the index holds, a question answers a column of the stretch that was asked for.
pub always_inside : (row : ℕ → ℕ) (held : List ℕ) (first end p s k c n : ℕ) → 1 ≤ k → ask k row held first end p s k ≡ by c n → (first ≤ c) × (c < end)
always_inside = ask_among
