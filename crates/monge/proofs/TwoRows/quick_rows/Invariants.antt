-- `quick_rows`: the columns passed agree; the loop ends at the last column, or at the first that does not agree.
use mathlib.Core.Path.{◌≡◌}
use mathlib.Core.Bool.{true}
use Rattle.definitions.specs.Lists.{all}
use Rattle.monge_laws.specs.QuickCheck.{quick_corners}
use Rattle.monge.specs.Matrix.{two_rows}
use Rattle.monge.proofs.TwoRows.quick_rows.Given as goal

abbrev pub invariant-loop-k : goal.invariant-loop-k
invariant-loop-k l = all (quick_corners (two_rows l.self.lengths.now l.self.above l.self.below) 0) l.k ≡ true
