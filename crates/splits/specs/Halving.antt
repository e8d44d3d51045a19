-- How an entry of the list of splits is cut. The laws are in proofs/.
--   Halved    at half
use Rattle.std.specs.Prelude.{◌≡◌, ◌+◌, ◌-◌, ◌/◌, ◌≤◌}
use Rattle.definitions.specs.Limits.{max_size}
use Rattle.definitions.specs.Blocks.{Split}

-- a stretch of at least two places, its first half and the rest
pub record Halved (c : Split) : Type 0 where
  pub two : c.first + 2 ≤ c.end
  pub fits : c.end ≤ max_size
  pub half : c.middle ≡ c.first + (c.end - c.first) / 2
