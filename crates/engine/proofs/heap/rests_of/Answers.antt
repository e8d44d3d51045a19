-- `rests_of` reads the first and the last of the intervals.
use borrow.Author.Tests.{lt-ltb, le-ltb}
use Rattle.engine.specs.Heap.Clear.{left_of, right_of}
use Rattle.engine.proofs.heap.rests_of.Goals as goal

pub returns-then-won : goal.returns-then-won
unfolding left_of right_of
returns-then-won c = let t = lt-ltb _ _ c.if-won.true in let i = c.interval-low.ensures in let j = c.interval-high.ensures in (simp t (rw (i.parent_is, i.first_is)), simp t (rw (j.parent_is, j.last_is)))

pub returns-else-won : goal.returns-else-won
unfolding left_of right_of
returns-else-won c = let t = le-ltb _ _ c.if-won.false in (simp t, simp t)
