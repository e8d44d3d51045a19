-- `KeptArcs::count_arcs` follows the arcs back from the target until the source is reached.
use Prim.Native.Nat.{◌-◌}
use Rattle.definitions.specs.Limits.{max_arcs}
use Rattle.routes.specs.Following.{CountArcsKeeps}
use Rattle.routes.proofs.KeptArcs.count_arcs.Given as goal

abbrev pub invariant-loop-v : goal.invariant-loop-v
invariant-loop-v l = CountArcsKeeps l.self.vertices.now l.self.words.now l.self.source l.target l.v l.count

abbrev pub decreases-loop-v : goal.decreases-loop-v
decreases-loop-v l = max_arcs - l.count
