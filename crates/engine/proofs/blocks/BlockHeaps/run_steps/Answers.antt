-- `BlockHeaps::run_steps` meets its contract: each step is one extraction more, and there are at most so many.
use native.Mathlib.Omega.{arith}
use Rattle.engine.specs.Labeller.StepLoop.{run_begun, run_needs, run_next, run_done}
use Rattle.engine.proofs.blocks.BlockHeaps.run_steps.Goals as goal

pub loop-next-init : goal.loop-next-init
loop-next-init c = rw c.started-answer.ensures (run_begun c.requires)

pub advance-requires : goal.advance-requires
advance-requires c = run_needs c.requires c.loop-next.invariant

pub loop-next-smaller : goal.loop-next-smaller
loop-next-smaller c = omega (arith, run_next c.requires c.loop-next.invariant _ _ c.in-Some.ensures)

pub loop-next-preserved : goal.loop-next-preserved
loop-next-preserved c = (run_next c.requires c.loop-next.invariant _ _ c.in-Some.ensures).0

pub returns : goal.returns
returns c = run_done c.requires c.loop-next.invariant _ _ c.in_default.ensures
