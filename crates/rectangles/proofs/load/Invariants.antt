-- `load` has stored the rows passed.
use mathlib.Core.Path.{◌≡◌}
use mathlib.Core.List.{◌++◌, map}
use lib.ListN.{drop}
use Rattle.definitions.specs.Lists.{up_from}
use Rattle.rectangles.specs.RectangleRows.{grid_row}
use Rattle.rectangles.proofs.load.Given as goal

abbrev pub invariant-loop-i : goal.invariant-loop-i
invariant-loop-i l = l.row-items ≡ map (grid_row l.lengths) (up_from 0 l.i) ++ drop l.i l.initial.row-items
