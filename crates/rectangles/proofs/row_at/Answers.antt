-- `row_at` has stored the entries passed.
use mathlib.Core.Path.{◌≡◌}
use mathlib.Core.List.{append-nil}
use native.Mathlib.Omega.{arith}
use Rattle.definitions.specs.Limits.{row_places}
use Rattle.basics.specs.Buffers.{filled_none, filled_more}
use Rattle.rectangles.specs.RectangleRows.{grid_row}
use Rattle.rectangles.proofs.row_at.Goals as goal

pub loop-k-init : goal.loop-k-init
loop-k-init c = filled_none _ _

pub loop-k-preserved : goal.loop-k-preserved
loop-k-preserved c = let k = c.loop-k.k in rw (c.entry_at.ensures, c.loop-k.invariant) (filled_more _ k _ (omega arith))

pub returns : goal.returns
unfolding grid_row
returns c = let e : c.loop-k.k ≡ row_places = omega arith in rw (c.loop-k.invariant, e) (append-nil _)
