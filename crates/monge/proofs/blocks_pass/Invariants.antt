-- `blocks_pass`: the blocks pass exactly if those of the splits that the loop has not passed do.
use mathlib.Core.Path.{◌≡◌}
use lib.ListN.{drop}
use Rattle.definitions.specs.Lists.{every}
use Rattle.definitions.specs.Blocks.{splits_of, windows, windows_of}
use Rattle.monge.specs.Matrix.{passes_in}
use Rattle.monge.proofs.blocks_pass.Given as goal

abbrev pub invariant-loop-k : goal.invariant-loop-k
invariant-loop-k l = every (passes_in l.lengths) (windows_of l.m) ≡ every (passes_in l.lengths) (windows (drop l.k (splits_of l.m)))
