-- `load` has stored the rows passed.
use mathlib.Core.Path.{◌≡◌}
use mathlib.Core.List.{append-nil}
use native.Mathlib.Omega.{arith}
use Rattle.definitions.specs.Limits.{max_side}
use Rattle.basics.specs.Buffers.{filled_none, filled_more}
use Rattle.rectangles.specs.RectangleRows.{grid}
use Rattle.rectangles.proofs.load.Goals as goal

pub loop-i-init : goal.loop-i-init
loop-i-init c = filled_none _ _

pub loop-i-preserved : goal.loop-i-preserved
loop-i-preserved c = let i = c.loop-i.i in rw (c.row_at.ensures, c.loop-i.invariant) (filled_more _ i _ (omega arith))

pub returns : goal.returns
unfolding grid
returns c = let e : c.loop-i.i ≡ max_side = omega arith in rw (c.loop-i.invariant, e) (append-nil _)
