-- `between` reads the end of the interval before and the beginning of the one at the place.
use Prim.Native.Nat.{◌≤◌, ◌<◌}
use native.Mathlib.Omega.{arith}
use borrow.Author.Tests.{lt-ltb, le-ltb}
use Rattle.definitions.specs.HeapWords.{count_of}
use Rattle.engine.specs.Heap.Search.{gap_from, gap_to}
use Rattle.engine.proofs.heap.between.Goals.{then-p-gt0, else-p-gt0}
use Rattle.engine.proofs.heap.between.Goals as goal

pub returns-then-p-count : goal.returns-then-p-count
unfolding gap_from gap_to
returns-then-p-count c =
    let l : c.args.p < count_of c.args.heap.now = omega (arith, c.if-p-count.true, c.count.ensures.is) in (
      elim c.if-p-gt0.branch [
        | then-p-gt0 w ↦ rw w.first-is (simp (lt-ltb _ _ w.if-p-gt0.true) (omega (arith, w.interval.ensures.last_is)))
        | else-p-gt0 w ↦ rw w.first-is (simp (le-ltb _ _ w.if-p-gt0.false))
      ],
      simp (lt-ltb _ _ l) c.interval-then-p-count.ensures.first_is,
    )

pub returns-else-p-count : goal.returns-else-p-count
unfolding gap_from gap_to
returns-else-p-count c =
    let l : count_of c.args.heap.now ≤ c.args.p = omega (arith, c.if-p-count.false, c.count.ensures.is) in (
      elim c.if-p-gt0.branch [
        | then-p-gt0 w ↦ rw w.first-is (simp (lt-ltb _ _ w.if-p-gt0.true) (omega (arith, w.interval.ensures.last_is)))
        | else-p-gt0 w ↦ rw w.first-is (simp (le-ltb _ _ w.if-p-gt0.false))
      ],
      simp (le-ltb _ _ l),
    )
