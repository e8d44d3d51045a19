-- `end_of`: the column before, in the same interval or at the end of the one before.
use Prim.Native.Nat.{◌+◌}
use native.Mathlib.Omega.{arith}
use Rattle.engine.specs.Heap.Search.{inner, outer}
use Rattle.engine.proofs.heap.end_of.Goals.{else-place-count-via-then-place-count+else-interval-column, else-place-count-via-else-place-count}
use Rattle.engine.proofs.heap.end_of.Goals as goal

pub returns-then-interval-column : goal.returns-then-interval-column
returns-then-interval-column c = inner (omega (arith, c.if-place-count.true, c.count.ensures.is)) (omega (arith, c.if-interval-column.true, c.interval.ensures.first_is))

pub returns-then-place-gt0 : goal.returns-then-place-gt0
returns-then-place-gt0 c = outer (c.interval-then-place-gt0.result.last + 1) (λ h. elim c.else-place-count.branch [
  | else-place-count-via-then-place-count+else-interval-column w ↦ omega (arith, w.interval.ensures.first_is, w.if-interval-column.false)
  | else-place-count-via-else-place-count w ↦ absurd (omega (arith, h, w.if-place-count.false, c.count.ensures.is))
]) (λ _. omega (arith, c.interval-then-place-gt0.ensures.last_is))

pub returns : goal.returns
returns c = outer _ (λ h. elim c.else-place-count.branch [
  | else-place-count-via-then-place-count+else-interval-column w ↦ omega (arith, w.interval.ensures.first_is, w.if-interval-column.false)
  | else-place-count-via-else-place-count w ↦ absurd (omega (arith, h, w.if-place-count.false, c.count.ensures.is))
]) (λ h. absurd (omega (arith, h, c.if-place-gt0.false)))
