-- `mark_all`: the columns before the one that is looked at are marked.
use mathlib.Core.Path.{◌≡◌}
use native.Mathlib.Omega.{arith}
use lib.ListN.{length-set}
use Rattle.definitions.specs.HeapWords.{place_words}
use Rattle.engine.specs.Heap.Strides.{group_ends}
use Rattle.engine.specs.Heap.Reaching.{mark_none, mark_more, mark_done}
use Rattle.engine.proofs.heap.mark_all.Goals as goal

pub loop-c-init : goal.loop-c-init
loop-c-init c = mark_none _

pub overflow_mul-heap : goal.overflow_mul-heap
overflow_mul-heap c = let p = c.requires in omega (arith, p.1, c.loop-c-test.true)

pub overflow_add-heap : goal.overflow_add-heap
overflow_add-heap c = let p = c.requires in omega (arith, p.1, c.loop-c-test.true)

pub overflow_add-heap-in-loop-c : goal.overflow_add-heap-in-loop-c
overflow_add-heap-in-loop-c c = let p = c.requires in omega (arith, p.1, c.loop-c-test.true)

pub offset_bounds-heap-c : goal.offset_bounds-heap-c
offset_bounds-heap-c c = let p = c.requires in omega (arith, p.1, c.loop-c-test.true)

pub bounds-heap-c : goal.bounds-heap-c
bounds-heap-c c = let p = c.requires in omega (arith, p.0, c.loop-c.invariant.long, group_ends place_words _ _ c.loop-c-test.true)

pub loop-c-preserved : goal.loop-c-preserved
loop-c-preserved c =
    let p = c.requires in
    mark_more _ _ _ (omega (arith, p.0, group_ends place_words _ _ c.loop-c-test.true)) c.loop-c.invariant

pub overflow_cast-heap : goal.overflow_cast-heap
overflow_cast-heap c = omega (arith, c.requires.1)

pub bounds-heap-1 : goal.bounds-heap-1
bounds-heap-1 c = omega (arith, c.requires.0, c.loop-c.invariant.long)

pub shape_of-heap : goal.shape_of-heap
shape_of-heap c = simp length-set c.loop-c.invariant.long

pub returns : goal.returns
returns c =
    let i = c.loop-c.invariant in
    let z : c.loop-c.c ≡ c.args.cols = omega arith in
    mark_done _ _ _ (omega (arith, c.requires.0)) (rw z at i)
