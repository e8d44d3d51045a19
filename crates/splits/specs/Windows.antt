-- What is tested of the blocks of a size, and what is said of them. The laws are in proofs/.
--   spans tally Spans    the blocks that have a pair of places
--   pairs few            the tests: each pair of places once, and few rows or columns in all
--   Inside               a block's places are below m, and no place is row and column
--   Logarithm            the logarithm that bounds the rows and the columns
use Rattle.std.specs.Prelude.{Bool, cond, ◌&&◌, List, [], ◌∷◌, map, ◌⊎◌, ℕ, suc, ◌+◌, ◌-◌, ◌*◌, ◌^◌, ◌≤◌, ◌<◌, eqb, ltb, leb}
use Rattle.definitions.specs.Lists.{all, total}
use Rattle.definitions.specs.Blocks.{Window, windows_of, logarithm}

-- the block has a row at place i and a column at place j
unfoldable pub spans : ℕ → ℕ → Window → Bool
spans i j w = (leb w.row0 i && ltb i (w.row0 + w.rows)) && (leb w.col0 j && ltb j (w.col0 + w.cols))

-- how many blocks have the pair
unfoldable pub tally : ℕ → ℕ → List Window → ℕ
tally i j [] = 0
tally i j (w ∷ ws) = cond (spans i j w) (suc (tally i j ws)) (tally i j ws)

-- ---- the tests

unfoldable pub pairs : ℕ → Bool
pairs m = let ws = windows_of m in all (λ i. all (λ j. eqb (tally i j ws) (cond (eqb i j) 0 1)) m) m

-- all blocks together: their rows or their columns, counted by f
unfoldable pub few : (Window → ℕ) → ℕ → Bool
few f m = leb (total (map f (windows_of m))) (m * logarithm m)

-- ---- of each size

-- the least power of two that is not below m
pub record Logarithm (m : ℕ) : Type 0 where
  pub enough : m ≤ 2 ^ logarithm m
  pub tight : 2 ≤ m → 2 ^ (logarithm m - 1) < m

-- ---- of each block

pub record Inside (m : ℕ) (w : Window) : Type 0 where
  pub rows_in : w.row0 + w.rows ≤ m
  pub cols_in_lem : w.col0 + w.cols ≤ m
  pub apart : (w.row0 + w.rows ≤ w.col0) ⊎ (w.col0 + w.cols ≤ w.row0)

-- a block that has a pair
pub record Spans (i j : ℕ) (w : Window) : Type 0 where
  pub row_from : w.row0 ≤ i
  pub row_to : i < w.row0 + w.rows
  pub col_from : w.col0 ≤ j
  pub col_to : j < w.col0 + w.cols
