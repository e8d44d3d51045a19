-- The two blocks of a split, as the code has them.
--   forth back   from its first half to its second, and back
use Rattle.std.specs.Prelude.{◌-◌}
use Rattle.splits.specs.declared.Split.{Split}
use Rattle.monge.specs.declared.Block.{Block}

abbrev pub forth : Split → Block
forth s = record { row0 = s.first; col0 = s.middle; rows = s.middle - s.first; cols = s.end - s.middle }

abbrev pub back : Split → Block
back s = record { row0 = s.middle; col0 = s.first; rows = s.end - s.middle; cols = s.middle - s.first }
