-- `lengths_fit`: a table may hold the rows passed.
use mathlib.Core.Path.{◌≡◌}
use mathlib.Core.Bool.{true}
use Rattle.definitions.specs.Lists.{all}
use Rattle.rectangles.specs.RectangleJudgement.{row_fits}
use Rattle.rectangles.proofs.lengths_fit.Given as goal

abbrev pub invariant-loop-i : goal.invariant-loop-i
invariant-loop-i l = all (row_fits l.lengths l.cols) l.i ≡ true
