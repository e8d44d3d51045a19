-- `quick_corners` meets its contract: the four entries are read and added in 64 bits; the right side only where the left one is small.
use mathlib.Core.Path.{◌≡◌}
use Prim.Native.Nat.{suc, ◌+◌, ◌<◌, ◌≤◌}
use native.Mathlib.Omega.{arith}
use borrow.Author.Tests.{lt-ltb, le-ltb}
use Rattle.definitions.specs.Limits.{no_path}
use Rattle.monge_laws.specs.QuickCheck.{quick_corners}
use Rattle.monge.specs.Matrix.{two_rows}
use Rattle.monge.proofs.TwoRows.quick_corners.Goals as goal

pub returns-then-left-from : goal.returns-then-left-from
unfolding quick_corners two_rows
returns-then-left-from c =
    let a = c.args in
    let e : a.self.now.above + a.k + 1 ≡ a.self.now.above + suc a.k = omega arith in
    let f : a.self.now.below + a.k + 1 ≡ a.self.now.below + suc a.k = omega arith in
    let h : c.from.result + c.from-2.result < no_path = omega arith in
    rw (← e, ← f, ← c.from.ensures, ← c.from-2.ensures, ← c.from-then-left-from.ensures, ← c.from-then-left-from-2.ensures, lt-ltb _ _ h)

pub returns-else-left-from : goal.returns-else-left-from
unfolding quick_corners two_rows
returns-else-left-from c =
    let a = c.args in
    let f : a.self.now.below + a.k + 1 ≡ a.self.now.below + suc a.k = omega arith in
    let h : no_path ≤ c.from.result + c.from-2.result = omega arith in
    rw (← f, ← c.from.ensures, ← c.from-2.ensures, c.from-3.ensures, le-ltb _ _ h)
