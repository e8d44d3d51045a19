-- `shift` moves a tail of the intervals, one by one, from the end that leaves the others in place.
use Prim.Native.Nat.{◌-◌}
use Rattle.engine.specs.Heap.WordLaws.{ShiftKeeps}
use Rattle.engine.proofs.heap.shift.Given as goal

abbrev pub invariant-loop-a : goal.invariant-loop-a
invariant-loop-a l = ShiftKeeps l.initial.heap l.heap l.start l.to l.n l.a l.b

abbrev pub decreases-loop-a : goal.decreases-loop-a
decreases-loop-a l = l.b - l.a
