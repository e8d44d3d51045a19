-- `BlockHeaps::settle` meets its contract: the links lead from place to place, and the pieces between two places of the vertex do not have it.
use Prim.Native.Nat.{◌-◌}
use Rattle.definitions.specs.Limits.{max_pieces}
use Rattle.engine.specs.Labeller.State.{arrays}
use Rattle.engine.specs.Labeller.Vertices.{done_at, SettleKeeps}
use Rattle.engine.proofs.blocks.BlockHeaps.settle.Given as goal

abbrev pub invariant-loop-link : goal.invariant-loop-link
invariant-loop-link l = SettleKeeps (arrays l.tables l.initial.row_labels l.initial.self) l.row_labels l.self.words l.self.tree.keys l.v l.l l.link l.inserted

abbrev pub decreases-loop-link : goal.decreases-loop-link
decreases-loop-link l = max_pieces - done_at max_pieces l.link
