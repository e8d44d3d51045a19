-- `count_runs`: so many runs lie before the column that is looked at.
use Prim.Native.Nat.{◌-◌, ◌≤◌}
use Rattle.engine.specs.Heap.RowRuns.{CountKeeps}
use Rattle.engine.proofs.rows.Block.count_runs.Given as goal

abbrev pub invariant-loop-c : goal.invariant-loop-c
invariant-loop-c l = (l.n ≤ l.c) × CountKeeps l.self.rows.now l.self.col0 l.row l.first l.end l.n l.c

abbrev pub decreases-loop-c : goal.decreases-loop-c
decreases-loop-c l = l.end - l.c
