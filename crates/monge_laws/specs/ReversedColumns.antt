-- The columns of a rectangle from the last one down: the inequality is then that of the columns as they stood, with its two rows exchanged. In the table of its piece the columns of a block stand
-- the other way round, and so it is checked as they stand there.
--   reversed              the columns from the last one down
--   agree_by rows_agree   two rows and all rows by neighbours, each two of them exchanged or not
use Rattle.std.specs.Prelude.{Bool, cond}
use Prim.Native.Nat.{ℕ, ◌-◌}
use Rattle.definitions.specs.Network.{Rectangle}
use Rattle.monge_laws.specs.Neighbours.{neighbours, agree, is_open_row}

abbrev pub reversed : Rectangle → ℕ → Rectangle
reversed e cols i k = e i (cols - 1 - k)

-- rows i < j
unfoldable pub agree_by : Bool → Rectangle → ℕ → ℕ → ℕ → Bool
agree_by exchange e cols i j = cond exchange (agree e cols j i) (agree e cols i j)

unfoldable pub rows_agree : Bool → Rectangle → ℕ → ℕ → Bool
rows_agree exchange e rows cols = neighbours (is_open_row e cols) (agree_by exchange e cols) rows
