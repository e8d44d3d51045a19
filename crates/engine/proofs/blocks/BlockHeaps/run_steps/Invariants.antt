-- `BlockHeaps::run_steps` meets its contract: each step is one extraction more, and there are at most so many.
use Prim.Native.Nat.{◌-◌}
use Rattle.engine.specs.Labeller.Counts.{max_extracted}
use Rattle.engine.specs.Labeller.StepLoop.{store, RunStepsKeeps}
use Rattle.engine.proofs.blocks.BlockHeaps.run_steps.Given as goal

abbrev pub invariant-loop-next : goal.invariant-loop-next
invariant-loop-next l = RunStepsKeeps (store l.tables l.initial.row_labels l.initial.self l.initial.labels l.initial.arcs) (store l.tables l.row_labels l.self l.labels l.arcs) l.begun l.answer

abbrev pub decreases-loop-next : goal.decreases-loop-next
decreases-loop-next l = max_extracted - l.answer.extracted
