-- What the code may rely on of the words of a heap.
--   In                         the columns of an interval
--   Lined                      the intervals lie in order, in the words and in a row
--   Laid lined                 they lie so in the window; parents have paths there, whose sums fit; each carries its best
--   part_fits                  some columns of an interval can be read
use Rattle.std.specs.Prelude.{ℕ, ◌+◌, ◌≤◌, ◌<◌, List, length}
use Rattle.std.proofs.Common.{arith}
use Rattle.definitions.specs.Limits.{max_side, row_places}
use Rattle.definitions.specs.Metres.{IsNumber}
use Rattle.definitions.specs.HeldModel.{lent_entry}
use Rattle.definitions.specs.HeapWords.{heap_words, count_of, parent_at, first_at, last_at, listed_at}
use Rattle.engine.specs.Heap.WordLaws.{word_end}
use Rattle.engine.specs.Heap.RowBest.{sum_at, StretchFits, RowBest}

-- column c is one of interval k
abbrev pub In : List ℕ → ℕ → ℕ → Type 0
In w k c = (first_at w k ≤ c) × (c ≤ last_at w k)

pub record Lined (w : List ℕ) : Type 0 where
  pub words : heap_words (count_of w) ≤ length w
  pub ordered : (k : ℕ) → k < count_of w → first_at w k ≤ last_at w k
  pub columns : (k : ℕ) → k < count_of w → last_at w k < row_places
  pub sorted : (j k : ℕ) → j < k → k < count_of w → last_at w j < first_at w k

pub record Laid (w : List ℕ) (rows : List (List ℕ)) (col0 : ℕ) (labels : List ℕ) : Type 0 where
  pub words : heap_words (count_of w) ≤ length w
  pub labelled : length rows ≤ length labels
  pub few : length rows ≤ max_side
  pub parent_in : (k : ℕ) → k < count_of w → parent_at w k < length rows
  pub ordered : (k : ℕ) → k < count_of w → first_at w k ≤ last_at w k
  pub columns : (k : ℕ) → k < count_of w → col0 + last_at w k < row_places
  pub sorted : (j k : ℕ) → j < k → k < count_of w → last_at w j < first_at w k
  pub paths : (k c : ℕ) → k < count_of w → In w k c → IsNumber (lent_entry rows col0 (parent_at w k) c)
  pub fits : (k c : ℕ) → k < count_of w → In w k c → sum_at rows col0 labels (parent_at w k) c < word_end
  pub bests : (k : ℕ) → k < count_of w → RowBest rows col0 labels (listed_at w k)

pub lined : {w : List ℕ} {rows : List (List ℕ)} {col0 : ℕ} {labels : List ℕ} → Laid w rows col0 labels → Lined w
lined g = record { words = g.words; ordered = g.ordered; columns = λ k l. omega (arith, g.columns k l); sorted = g.sorted }

-- some columns of interval k
pub part_fits : (w : List ℕ) (rows : List (List ℕ)) (col0 : ℕ) (labels : List ℕ) → Laid w rows col0 labels → (k first end : ℕ) → k < count_of w
    → first_at w k ≤ first → end ≤ last_at w k + 1 → StretchFits rows col0 labels (parent_at w k) first end
part_fits w rows col0 labels g k first end l low high = record {
  row_in_lem = g.parent_in k l;
  labelled = g.labelled;
  small = omega (arith, g.parent_in k l, g.few);
  columns = omega (arith, g.columns k l);
  paths = λ c a b. g.paths k c l (omega arith, omega arith);
  fits = λ c a b. g.fits k c l (omega arith, omega arith);
}
