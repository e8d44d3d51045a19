-- `judge_vertices`: the list is sound exactly if what the loop has not passed is.
use mathlib.Core.Path.{◌≡◌}
use mathlib.Core.Bool.{Bool, ◌&&◌}
use mathlib.Core.List.{List}
use Prim.Native.Nat.{ℕ}
use lib.ListN.{drop}
use Rattle.definitions.specs.Lists.{every, different, within}
use Rattle.judgements.proofs.judge_vertices.Given as goal

abbrev pub sound : ℕ → List ℕ → Bool
sound n vertices = every (within n) vertices && different vertices

abbrev pub invariant-loop-i : goal.invariant-loop-i
invariant-loop-i l = sound l.n l.vertices ≡ sound l.n (drop l.i l.vertices)
