-- `shift` moves a tail of the intervals, one by one, from the end that leaves the others in place.
use native.Mathlib.Omega.{arith}
use Rattle.engine.specs.Heap.WordLaws.{moving_all, moving_last, moving_first, shifted}
use Rattle.engine.proofs.heap.shift.Goals as goal

pub loop-a-init : goal.loop-a-init
loop-a-init c = moving_all _ _ _ _

pub overflow_sub-b-then-start-to : goal.overflow_sub-b-then-start-to
overflow_sub-b-then-start-to c = omega (arith, c.loop-a.invariant.from_start)

pub overflow_add-to : goal.overflow_add-to
overflow_add-to c = omega (arith, c.loop-a.invariant.to_end)

pub move_interval-requires : goal.move_interval-requires
move_interval-requires c = let m = c.loop-a.invariant in (omega (arith, m.to_end, m.long), omega (arith, m.to_end, m.from_start, m.long))

pub loop-a-preserved-then-start-to : goal.loop-a-preserved-then-start-to
loop-a-preserved-then-start-to c = moving_last _ _ _ _ _ _ _ _ c.if-start-to.true c.loop-a-test.true c.loop-a.invariant c.move_interval.ensures

pub overflow_sub-a : goal.overflow_sub-a
overflow_sub-a c = omega (arith, c.loop-a.invariant.from_start)

pub overflow_add-to-else-start-to : goal.overflow_add-to-else-start-to
overflow_add-to-else-start-to c = omega (arith, c.loop-a.invariant.to_end)

pub move_interval-requires-else-start-to : goal.move_interval-requires-else-start-to
move_interval-requires-else-start-to c = let m = c.loop-a.invariant in (omega (arith, m.to_end, m.long), omega (arith, m.to_end, m.from_start, m.long))

pub loop-a-preserved : goal.loop-a-preserved
loop-a-preserved c = moving_first _ _ _ _ _ _ _ _ c.if-start-to.false c.loop-a-test.true c.loop-a.invariant c.move_interval-else-start-to.ensures

pub shape_of-heap : goal.shape_of-heap
shape_of-heap c = c.loop-a.invariant.long

pub returns : goal.returns
returns c = shifted _ _ _ _ _ _ _ c.loop-a-test.false c.loop-a.invariant
