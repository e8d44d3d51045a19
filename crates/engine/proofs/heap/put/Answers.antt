-- `put` writes the words of one interval.
use native.Mathlib.Nat.{add-zero}
use native.Mathlib.Numerals.{add-one, add-two, add-three, add-four}
use native.Mathlib.Omega.{arith}
use lib.ListN.{length-set}
use Rattle.engine.specs.Heap.WordLaws.{put_done}
use Rattle.engine.proofs.heap.put.Goals as goal

pub bounds-heap-at-2 : goal.bounds-heap-at-2
bounds-heap-at-2 c = simp length-set (omega arith)

pub bounds-heap-at-3 : goal.bounds-heap-at-3
bounds-heap-at-3 c = simp length-set (omega arith)

pub bounds-heap-at-4 : goal.bounds-heap-at-4
bounds-heap-at-4 c = simp length-set (omega arith)

pub bounds-heap-at-5 : goal.bounds-heap-at-5
bounds-heap-at-5 c = simp length-set (omega arith)

pub returns : goal.returns
returns c = simp (add-zero, add-one, add-two, add-three, add-four) (put_done _ _ c.args.interval c.requires)
