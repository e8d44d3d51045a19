-- `first_yes` halves the numbers that are left: the test fails just before them, and holds just behind them.
use Prim.Native.Nat.{◌-◌}
use Rattle.engine.specs.Heap.Bisect.{Halving}
use Rattle.engine.proofs.finding.first_yes.Given as goal

abbrev pub invariant-loop-a : goal.invariant-loop-a
invariant-loop-a g l = Halving (goal.F-post g l.test) l.from l.to l.a l.b

abbrev pub decreases-loop-a : goal.decreases-loop-a
decreases-loop-a g l = l.b - l.a
