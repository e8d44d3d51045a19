-- A sum against the earliest of least sum.
--   beats       a sum that is strictly below a best
--   From UpTo   bounds of a best's sum
use Rattle.std.specs.Prelude.{Bool, true, ℕ, ◌≤◌}
use Rattle.definitions.specs.Limits.{below}
use Rattle.definitions.specs.Best.{Best, nobody, by}

-- the sum is strictly smaller, or there is nobody
unfoldable pub beats : ℕ → Best → Bool
beats n nobody = true
beats n (by p s) = below n s

-- at least n, or nobody
abbrev pub From : ℕ → Best → Type 0
From n nobody = Unit {0}
From n (by p s) = n ≤ s

-- somebody, with at most n
abbrev pub UpTo : ℕ → Best → Type 0
UpTo n nobody = ⊥
UpTo n (by p s) = s ≤ n
