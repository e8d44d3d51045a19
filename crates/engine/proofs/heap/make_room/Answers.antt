-- `make_room` shifts what comes after and writes the count.
use native.Mathlib.Omega.{arith}
use lib.ListN.{length-set}
use Rattle.engine.specs.Heap.Clear.{room_made}
use Rattle.engine.proofs.heap.make_room.Goals as goal

pub count-n-requires : goal.count-n-requires
count-n-requires c = omega (arith, c.requires.words)

pub overflow_add-to : goal.overflow_add-to
overflow_add-to c = omega (arith, c.requires.small)

pub shift-requires : goal.shift-requires
shift-requires c = let p = c.requires in let n = c.count-n.ensures.is in (omega (arith, p.words, n), omega (arith, p.room, n))

pub overflow_sub-heap : goal.overflow_sub-heap
overflow_sub-heap c = omega (arith, c.requires.inside, c.count-n.ensures.is)

pub overflow_add-heap : goal.overflow_add-heap
overflow_add-heap c = omega (arith, c.requires.small, c.count-n.ensures.is)

pub overflow_cast-heap : goal.overflow_cast-heap
overflow_cast-heap c = omega (arith, c.requires.small, c.count-n.ensures.is)

pub bounds-heap-0 : goal.bounds-heap-0
bounds-heap-0 c = omega (arith, c.requires.words, c.shift.ensures.long)

pub shape_of-heap : goal.shape_of-heap
shape_of-heap c = simp length-set c.shift.ensures.long

pub returns : goal.returns
returns c = room_made _ _ _ _ c.requires _ _ c.count-n.ensures c.shift.ensures
