-- The earliest of least sum: the one choice that document 01 makes for the parent of a column, the column of an extraction and the block of a step, and
-- document 02, request 3, for the best of an interval.
--   Best lesser least        of two, of a list
--   placed least_from         of neighbouring places
--   Lowest                   the same in plain terms
use Rattle.std.specs.Prelude.{◌≡◌, cond, List, [], ◌∷◌, ℕ, zero, suc, ◌+◌, ◌≤◌, ◌<◌}
use Rattle.definitions.specs.Limits.{below}

-- nobody, or a place (a row, a column, a block) with its sum
pub data Best : Type 0 where
  nobody : Best
  by : ℕ → ℕ → Best

-- the second wins only by a strictly smaller sum
unfoldable pub lesser : Best → Best → Best
lesser nobody y = y
lesser (by p s) nobody = by p s
lesser (by p s) (by p' s') = cond (below s' s) (by p' s') (by p s)

-- the earliest of a list that reaches the least sum
unfoldable pub least : List Best → Best
least [] = nobody
least (x ∷ xs) = lesser x (least xs)

-- a place with the sum that it was given
unfoldable pub placed : ℕ → Best → Best
placed c nobody = nobody
placed c (by p s) = by c s

-- the lowest of the n places from c on that reaches the least sum; nobody if none has one
unfoldable pub least_from : (ℕ → Best) → ℕ → ℕ → Best
least_from w c zero = nobody
least_from w c (suc n) = lesser (placed c (w c)) (least_from w (suc c) n)

-- In plain terms: place k, one of the n places from c on, has the sum s; none of them has a smaller one, and none before k as small a one.
pub record Lowest (w : ℕ → Best) (c n k s : ℕ) : Type 0 where
  pub low : c ≤ k
  pub high : k < c + n
  pub holder : ℕ
  pub here : w k ≡ by holder s
  pub no_less : (d p t : ℕ) → c ≤ d → d < c + n → w d ≡ by p t → s ≤ t
  pub no_lower : (d p t : ℕ) → c ≤ d → d < k → w d ≡ by p t → s < t
