-- A split of a size. The laws are in proofs/.
--   Cut    between two of its places, and all of them are below the size
use Rattle.std.specs.Prelude.{ℕ, ◌≤◌, ◌<◌}
use Rattle.definitions.specs.Blocks.{Split}

pub record Cut (m : ℕ) (c : Split) : Type 0 where
  pub before : c.first < c.middle
  pub after : c.middle < c.end
  pub inside : c.end ≤ m
