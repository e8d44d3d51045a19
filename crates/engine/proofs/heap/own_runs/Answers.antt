-- `own_runs`: one where all columns are reached, else as many as are counted.
use mathlib.Core.Path.{sym, ◌∙◌}
use Rattle.engine.specs.Heap.RowRuns.{full_run}
use Rattle.engine.proofs.heap.own_runs.Goals as goal

pub returns-then-reached-block : goal.returns-then-reached-block
returns-then-reached-block c = let p = c.requires in λ labels. sym (full_run _ _ labels _ _ _ p.reads.2 (p.full (sym c.reached.ensures.is ∙ c.if-reached-block.true)))
