-- `State::call_at` makes the call that the numbers at its place say, and writes its answer.
use Rattle.definitions.specs.Entries.{call_at}
use Rattle.engine.proofs.session.State.call_at.Goals as goal

pub returns-clause-promised : goal.returns-clause-promised
unfolding call_at
returns-clause-promised c = c.call-called.ensures.promised
