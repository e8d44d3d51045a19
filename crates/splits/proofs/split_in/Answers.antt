-- `split_in` reads three bytes: a byte is below 256, so each fits.
use Prim.Native.Nat.{◌+◌, ◌*◌}
use native.Mathlib.Omega.{arith}
use borrow.Author.Tests.{lt-ltb, le-ltb}
use Rattle.splits.specs.Table.{split_in}
use Rattle.splits.proofs.split_in.Goals as goal

pub overflow_cast-result : goal.overflow_cast-result
overflow_cast-result c = omega (arith, c.type_inv.list (3 * c.args.k))

pub overflow_cast-result-then-k-list : goal.overflow_cast-result-then-k-list
overflow_cast-result-then-k-list c = omega (arith, c.type_inv.list (3 * c.args.k + 1))

pub overflow_cast-result-then-k-list-2 : goal.overflow_cast-result-then-k-list-2
overflow_cast-result-then-k-list-2 c = omega (arith, c.type_inv.list (3 * c.args.k + 2))

pub returns-then-k-list : goal.returns-then-k-list
unfolding split_in
returns-then-k-list c = rw (lt-ltb _ _ c.if-k-list.true)

pub returns-else-k-list : goal.returns-else-k-list
unfolding split_in
returns-else-k-list c = rw (le-ltb _ _ c.if-k-list.false)
