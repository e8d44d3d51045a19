-- M6: an activation by its row and its label.
--   labelled   row r with the label v
use Rattle.std.specs.Prelude.{ℕ}
use Rattle.definitions.specs.Model.{Activation}

-- row r with the label v
abbrev pub labelled : ℕ → ℕ → Activation
labelled r v = record { row = r; label = v }
