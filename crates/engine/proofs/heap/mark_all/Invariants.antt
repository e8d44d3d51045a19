-- `mark_all`: the columns before the one that is looked at are marked.
use Rattle.engine.specs.Heap.Reaching.{MarkKeeps}
use Rattle.engine.proofs.heap.mark_all.Given as goal

abbrev pub invariant-loop-c : goal.invariant-loop-c
invariant-loop-c l = MarkKeeps l.initial.heap l.heap l.c
