-- `KeptArcs::put_arcs` puts the arcs into the buffer from the last one on, as they are followed back from the target.
use Rattle.routes.specs.Writing.{PutArcsKeeps}
use Rattle.routes.proofs.KeptArcs.put_arcs.Given as goal

abbrev pub invariant-loop-k : goal.invariant-loop-k
invariant-loop-k l = PutArcsKeeps l.arcs l.self.vertices.now l.self.lengths.now l.self.words.now l.target l.count l.v l.k
