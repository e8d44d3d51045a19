-- `Tournament::decrease_key` meets its contract. The invariant: as after the leaf's store, every word is right but perhaps the one at t, and
-- that one once x is let in.
use mathlib.Core.Path.{◌≡◌}
use mathlib.Core.List.{List}
use Prim.Native.Nat.{ℕ, ◌<◌}
use lib.ListN.{length}
use Rattle.engine.specs.Tree.TreeWords.{leaves, tree_words}
use Rattle.engine.specs.Tree.Climb.{Decreasing}
use Rattle.engine.proofs.tree.Tournament.decrease_key.Given as goal

abbrev pub invariant-loop-t : goal.invariant-loop-t
invariant-loop-t l = (length l.self.keys ≡ tree_words) × (l.t < leaves) × ((before : List ℕ) → Decreasing l.b l.x before l.initial.self.keys l.initial.t → Decreasing l.b l.x before l.self.keys l.t)

abbrev pub decreases-loop-t : goal.decreases-loop-t
decreases-loop-t l = l.t
