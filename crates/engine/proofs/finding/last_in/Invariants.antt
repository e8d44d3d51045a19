-- `last_in`: the test fails at each number from the one that is looked at on.
use mathlib.Core.Bool.{false}
use Prim.Native.Nat.{ℕ, ◌≤◌, ◌<◌}
use Rattle.engine.proofs.finding.last_in.Given as goal

abbrev pub invariant-loop-x : goal.invariant-loop-x
invariant-loop-x g l = (y : ℕ) → l.x ≤ y → y < l.to → goal.F-post g l.test y false
