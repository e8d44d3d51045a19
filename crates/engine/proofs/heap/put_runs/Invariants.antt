-- `put_runs`: the runs before the column that is looked at are written.
use Rattle.engine.specs.Heap.RowRuns.{RunsKeeps}
use Rattle.engine.proofs.heap.put_runs.Given as goal

abbrev pub invariant-loop-k : goal.invariant-loop-k
invariant-loop-k l = RunsKeeps l.initial.heap l.heap l.block.rows.now l.block.col0 l.block.labels.now l.row l.place l.number l.initial.c l.end l.k l.c l.sum
