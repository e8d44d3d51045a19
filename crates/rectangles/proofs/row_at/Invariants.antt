-- `row_at` has stored the entries passed.
use mathlib.Core.Path.{◌≡◌}
use mathlib.Core.List.{◌++◌, map}
use lib.ListN.{drop}
use Rattle.definitions.specs.Lists.{up_from}
use Rattle.definitions.specs.Entries.{rectangle_of}
use Rattle.rectangles.proofs.row_at.Given as goal

abbrev pub invariant-loop-k : goal.invariant-loop-k
invariant-loop-k l = l.entry-items ≡ map (rectangle_of l.lengths l.i) (up_from 0 l.k) ++ drop l.k l.initial.entry-items
