-- `BlockHeaps::advance` meets its contract: no block has an interval; or the vertex that is extracted is settled already; or it is settled now.
use mathlib.Core.Path.{refl}
use native.Mathlib.Omega.{arith}
use Rattle.engine.specs.Labeller.StepLoop.{step_few, step_begins, step_ends, step_known, step_old, step_settles, step_new}
use Rattle.engine.proofs.blocks.BlockHeaps.advance.Goals as goal

pub extract-requires : goal.extract-requires
extract-requires c = step_begins c.requires

pub returns-in_default : goal.returns-in_default
returns-in_default c = step_ends c.requires _ _ c.in_default.ensures

pub overflow_sub-v : goal.overflow_sub-v
overflow_sub-v c = omega (arith, step_known c.requires _ _ c.in-Some.ensures)

pub overflow_sub-labels : goal.overflow_sub-labels
overflow_sub-labels c = omega (arith, step_known c.requires _ _ c.in-Some.ensures)

pub offset_bounds-labels-v : goal.offset_bounds-labels-v
offset_bounds-labels-v c = omega (arith, step_known c.requires _ _ c.in-Some.ensures)

pub bounds-labels-v : goal.bounds-labels-v
bounds-labels-v c = omega (arith, step_known c.requires _ _ c.in-Some.ensures, step_few c.requires)

pub counted-requires : goal.counted-requires
counted-requires c =
    let k = step_known c.requires _ _ c.in-Some.ensures in
    let f = step_few c.requires in
    (omega arith, omega arith, omega arith)

pub returns-then-labels-v : goal.returns-then-labels-v
returns-then-labels-v c =
    λ f source n qs u.
    rw c.counted.ensures (step_old c.requires _ _ c.in-Some.ensures c.if-labels-v.true f source n qs u, refl, (step_known c.requires _ _ c.in-Some.ensures).2)

pub offset_bounds-labels-v-2 : goal.offset_bounds-labels-v-2
offset_bounds-labels-v-2 c = omega (arith, step_known c.requires _ _ c.in-Some.ensures)

pub bounds-labels-v-2 : goal.bounds-labels-v-2
bounds-labels-v-2 c = omega (arith, step_known c.requires _ _ c.in-Some.ensures, step_few c.requires)

pub overflow_sub-arcs : goal.overflow_sub-arcs
overflow_sub-arcs c = omega (arith, step_known c.requires _ _ c.in-Some.ensures)

pub offset_bounds-arcs-v : goal.offset_bounds-arcs-v
offset_bounds-arcs-v c = omega (arith, step_known c.requires _ _ c.in-Some.ensures)

pub bounds-arcs-v : goal.bounds-arcs-v
bounds-arcs-v c = omega (arith, step_known c.requires _ _ c.in-Some.ensures, step_few c.requires)

pub settle-more-requires : goal.settle-more-requires
settle-more-requires c = step_settles c.requires _ _ c.in-Some.ensures c.if-labels-v.false

pub overflow_add-step : goal.overflow_add-step
overflow_add-step c = omega (arith, step_known c.requires _ _ c.in-Some.ensures, c.settle-more.ensures.few)

pub counted-requires-2 : goal.counted-requires-2
counted-requires-2 c =
    let k = step_known c.requires _ _ c.in-Some.ensures in
    let f = step_few c.requires in
    let m = c.settle-more.ensures.few in
    (omega arith, omega arith, omega arith)

pub returns : goal.returns
returns c =
    λ f source n qs u.
    rw c.counted-2.ensures (step_new c.requires _ _ c.in-Some.ensures c.if-labels-v.false c.settle-more.ensures.done f source n qs u, refl, (step_known c.requires _ _ c.in-Some.ensures).2)
