-- `fill_row`: after k turns the first k places are the definition's.
use Rattle.std.proofs.Common.{◌≡◌, ◌++◌, map, drop}
use Rattle.definitions.specs.Lists.{up_from}
use Rattle.preparation.specs.Prepared.{matrix_entry}
use Rattle.preparation.proofs.fill_row.Given as goal

abbrev pub invariant-loop-k : goal.invariant-loop-k
invariant-loop-k l = l.row ≡ map (matrix_entry l.lengths l.r) (up_from 0 l.k) ++ drop l.k l.initial.row
