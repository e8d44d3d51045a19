-- `fill_rows` fills a row a turn: after r turns the first r rows are the definition's.
use Rattle.std.proofs.Common.{◌≡◌, ◌++◌, map, drop}
use Rattle.definitions.specs.Lists.{up_from}
use Rattle.preparation.specs.Prepared.{matrix_row}
use Rattle.preparation.proofs.fill_rows.Given as goal

abbrev pub invariant-loop-r : goal.invariant-loop-r
invariant-loop-r l = l.matrix ≡ map (matrix_row l.lengths) (up_from 0 l.r) ++ drop l.r l.initial.matrix
