-- `BlockHeaps::label_all` meets its contract: the source is settled, and the steps end in the labelling.
use native.Mathlib.Omega.{arith}
use Rattle.engine.specs.Labeller.StepLoop.{label_source, label_settles, label_started, label_steps, label_long}
use Rattle.engine.proofs.blocks.BlockHeaps.label_all.Goals as goal

pub overflow_sub-labels : goal.overflow_sub-labels
overflow_sub-labels c = (label_source c.requires).0

pub offset_bounds-labels-source : goal.offset_bounds-labels-source
offset_bounds-labels-source c = omega (arith, label_source c.requires)

pub bounds-labels-source : goal.bounds-labels-source
bounds-labels-source c = omega (arith, label_source c.requires)

pub settle-begun-requires : goal.settle-begun-requires
settle-begun-requires c = label_settles c.requires

pub run_steps-requires : goal.run_steps-requires
run_steps-requires c = label_steps c.requires c.settle-begun.ensures.done

pub shape_of-labels : goal.shape_of-labels
shape_of-labels c = (label_long c.requires c.settle-begun.ensures.done c.run_steps.ensures).0

pub shape_of-arcs : goal.shape_of-arcs
shape_of-arcs c = (label_long c.requires c.settle-begun.ensures.done c.run_steps.ensures).1

pub returns : goal.returns
returns c = λ f n qs b. c.run_steps.ensures f _ n qs (label_started c.requires c.settle-begun.ensures.done f n qs b)
