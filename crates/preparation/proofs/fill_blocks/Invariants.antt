-- `fill_blocks` has filled the first b blocks.
use Rattle.std.proofs.Common.{◌≡◌}
use Rattle.preparation.specs.BlockIndex.{filled_up_to}
use Rattle.preparation.proofs.fill_blocks.Given as goal

abbrev pub invariant-loop-b : goal.invariant-loop-b
invariant-loop-b l = l.index ≡ filled_up_to l.matrix l.tables l.initial.index l.b
