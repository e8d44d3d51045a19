-- Where a column lies beside an interval.
--   Beside   after the intervals of lower rows and before those of higher rows
use Prim.Native.Nat.{ℕ, ◌≤◌, ◌<◌}
use Rattle.definitions.specs.Intervals.{Interval, interval}

-- column c lies after an interval of a row below r, before one of a row above r
abbrev pub Beside : ℕ → ℕ → Interval → Type 0
Beside r c (interval p f l) = (p ≤ r → l < c) × (r ≤ p → c < f)
