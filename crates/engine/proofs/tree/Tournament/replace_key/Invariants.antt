-- `Tournament::replace_key` meets its contract. The invariant: as after the leaf's store, every word is right but perhaps the one above t.
use mathlib.Core.Path.{◌≡◌}
use mathlib.Core.List.{List}
use Prim.Native.Nat.{ℕ, ◌-◌, ◌/◌, ◌≤◌}
use lib.ListN.{length}
use Rattle.engine.specs.Tree.TreeWords.{levels, tree_words, at}
use Rattle.engine.specs.Tree.Climb.{Climbing, AtLevel}
use Rattle.engine.proofs.tree.Tournament.replace_key.Given as goal

abbrev pub invariant-loop : goal.invariant-loop
invariant-loop l = (l.counter ≤ levels) × (length l.self.keys ≡ tree_words) × AtLevel l.counter l.t × (at l.self.keys l.t ≡ l.lesser) × ((before : List ℕ) → Climbing l.b l.x before l.initial.self.keys (l.initial.t / 2) → Climbing l.b l.x before l.self.keys (l.t / 2))

abbrev pub decreases-loop : goal.decreases-loop
decreases-loop l = levels - l.counter
