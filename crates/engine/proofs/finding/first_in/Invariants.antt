-- `first_in`: the test fails at each number before the one that is looked at.
use mathlib.Core.Bool.{false}
use Prim.Native.Nat.{ℕ, ◌≤◌, ◌<◌}
use Rattle.engine.proofs.finding.first_in.Given as goal

abbrev pub invariant-loop-x : goal.invariant-loop-x
invariant-loop-x g l = (y : ℕ) → l.from ≤ y → y < l.x → goal.F-post g l.test y false
