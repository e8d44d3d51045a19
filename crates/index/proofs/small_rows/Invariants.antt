-- `small_rows` fills a row a turn: after r turns the first r rows are filled.
use Rattle.std.proofs.Common.{◌≡◌, List, ℕ, length, take}
use Rattle.index.specs.HeldRows.{filled_row, each_row}
use Rattle.index.proofs.small_rows.Given as goal

abbrev pub fill : ℕ → ℕ → ℕ → List ℕ → List ℕ → List ℕ
fill at start count held row = filled_row held row at start count

abbrev pub invariant-loop-r : goal.invariant-loop-r
invariant-loop-r l = record {
  tall : length l.index ≡ length l.rows;
  filled : l.index ≡ each_row (fill l.at l.stretch.start l.stretch.count) l.initial.index (take l.r l.rows);
}
