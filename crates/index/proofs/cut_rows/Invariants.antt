-- `cut_rows` fills a place of a row a turn: after r turns it is filled in the first r rows.
use Rattle.std.proofs.Common.{◌≡◌, length, take}
use Rattle.index.specs.HeldRows.{each_row}
use Rattle.index.specs.HeldLaws.{cut_row}
use Rattle.index.proofs.cut_rows.Given as goal

abbrev pub invariant-loop-r : goal.invariant-loop-r
invariant-loop-r l = record {
  tall : length l.index ≡ length l.rows;
  cut : l.index ≡ each_row (cut_row l.at l.stretch.start l.stretch.count) l.initial.index (take l.r l.rows);
}
