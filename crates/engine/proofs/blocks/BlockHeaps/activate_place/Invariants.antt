-- `BlockHeaps::activate_place` meets its contract: at each level the vertex is activated in one block, and the stretch is halved.
use Rattle.engine.specs.Labeller.State.{arrays}
use Rattle.engine.specs.Labeller.Activations.{ActivatePlaceKeeps}
use Rattle.engine.proofs.blocks.BlockHeaps.activate_place.Given as goal

abbrev pub invariant-loop-k : goal.invariant-loop-k
invariant-loop-k l = ActivatePlaceKeeps (arrays l.tables l.labels l.initial.self) l.self.words l.self.tree.keys l.first l.size l.i l.s l.start l.k l.inserted

abbrev pub decreases-loop-k : goal.decreases-loop-k
decreases-loop-k l = l.k
