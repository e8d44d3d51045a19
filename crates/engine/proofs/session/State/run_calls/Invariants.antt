-- `State::run_calls`: after k calls the words hold the model of the first k calls.
use Rattle.engine.specs.Session.SessionChain.{RunCallsKeeps}
use Rattle.engine.proofs.session.State.run_calls.Given as goal

abbrev pub invariant-loop-k : goal.invariant-loop-k
invariant-loop-k l =
    let r = l.rectangle in
    let s = l.self in
    RunCallsKeeps r.rows.now r.cols l.calls l.initial.answers l.k s.heap s.labels l.answers s.floor l.inserted l.removed
