-- `Rest::len`: 1 if there are columns, else 0.
use native.Mathlib.Omega.{arith}
use Rattle.engine.specs.Heap.Clear.{rest_len}
use borrow.Author.Tests.{lt-ltb, le-ltb}
use Rattle.engine.proofs.heap.Rest.len.Goals as goal

pub returns-then-self : goal.returns-then-self
unfolding rest_len
returns-then-self c = (simp (lt-ltb _ _ c.if-self.true), omega arith)

pub returns : goal.returns
unfolding rest_len
returns c = (simp (le-ltb _ _ c.if-self.false), omega arith)
