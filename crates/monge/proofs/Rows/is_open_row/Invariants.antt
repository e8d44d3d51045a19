-- `is_open_row`: no path at the columns passed; the loop ends at the last, or at the first with a number.
use mathlib.Core.Path.{◌≡◌}
use mathlib.Core.Bool.{true}
use lib.Dec.{eqb}
use Rattle.definitions.specs.Limits.{no_path}
use Rattle.definitions.specs.Lists.{all}
use Rattle.monge.specs.Matrix.{rows_from}
use Rattle.monge.proofs.Rows.is_open_row.Given as goal

abbrev pub invariant-loop-k : goal.invariant-loop-k
invariant-loop-k l = all (λ n. eqb (rows_from l.self.lengths.now l.self.first l.i n) no_path) l.k ≡ true
