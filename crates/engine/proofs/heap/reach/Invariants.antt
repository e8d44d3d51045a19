-- `reach`: the columns up to the one that is looked at are reached.
use Rattle.engine.specs.Heap.Reaching.{ReachLeaves}
use Rattle.engine.proofs.heap.reach.Given as goal

abbrev pub invariant-loop-c : goal.invariant-loop-c
invariant-loop-c l = ReachLeaves l.initial.heap l.heap l.block.rows.now l.block.col0 l.block.cols l.row l.first l.c
