-- M8: the counts of a list of calls.
--   Few   at most so many for each activated row and two for each extracted column
use Rattle.std.specs.Prelude.{ℕ, ◌+◌, ◌*◌, ◌≤◌, length}
use Rattle.definitions.specs.Model.{Trace}

-- with so many closed columns, at most three more than these for each activated row, two for each extracted column
abbrev pub Few : ℕ → Trace → Type 0
Few shut t = t.inserted ≤ (3 + shut) * length t.model.activated + 2 * length t.model.extracted
