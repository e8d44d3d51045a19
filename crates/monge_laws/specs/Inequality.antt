-- The inequality of a rectangle, with no path.
--   Corners   what it says of four entries: N1 and M1
use Rattle.std.specs.Prelude.{ℕ, ◌+◌, ◌≤◌}
use Rattle.definitions.specs.Metres.{IsNumber}
use Rattle.definitions.specs.Network.{Rectangle}

-- numbers on the right force numbers on the left (N1), and then the inequality is that of numbers (M1)
abbrev pub Corners : Rectangle → ℕ → ℕ → ℕ → ℕ → Type 0
Corners e i j k l = IsNumber (e i l) → IsNumber (e j k) → IsNumber (e i k) × IsNumber (e j l) × (e i k + e j l ≤ e i l + e j k)
