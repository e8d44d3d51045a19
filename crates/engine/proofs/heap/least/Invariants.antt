-- `least` goes through the bests.
use Rattle.engine.specs.Heap.LeastColumn.{LeastKeeps}
use Rattle.engine.proofs.heap.least.Given as goal

abbrev pub invariant-loop-k : goal.invariant-loop-k
invariant-loop-k l = LeastKeeps l.heap l.k l.place l.sum
