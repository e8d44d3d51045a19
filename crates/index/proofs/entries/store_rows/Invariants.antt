-- `store_rows` stores a row a turn, in a buffer of zeros.
use Rattle.std.proofs.Common.{◌≡◌, length}
use Rattle.definitions.specs.Limits.{index_places}
use Rattle.index.specs.IndexRows.{stored_rows}
use Rattle.index.proofs.entries.store_rows.Given as goal

abbrev pub invariant-loop-i : goal.invariant-loop-i
invariant-loop-i l = record {
  sized : length l.index ≡ index_places;
  stored : l.index ≡ stored_rows l.held l.i;
}
