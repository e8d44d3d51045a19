-- `put_intervals`: the first k intervals stand at the buffer's front.
use Rattle.definitions.specs.Limits.{interval_size}
use Rattle.engine.specs.Session.Fronts.{Front, first_listed}
use Rattle.engine.proofs.session.put_intervals.Given as goal

abbrev pub invariant-loop-k : goal.invariant-loop-k
invariant-loop-k l = Front interval_size l.k l.initial.buffer (first_listed l.heap l.k) l.buffer
