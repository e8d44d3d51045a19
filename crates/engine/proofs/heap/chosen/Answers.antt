-- `chosen` goes by the two tests.
use Rattle.engine.proofs.heap.chosen.Goals as goal

pub returns-then-won : goal.returns-then-won
returns-then-won c = rw c.if-won.true

pub returns-then-some : goal.returns-then-some
returns-then-some c = rw (c.if-won.false, c.if-some.true)

pub returns : goal.returns
returns c = rw (c.if-won.false, c.if-some.false)
