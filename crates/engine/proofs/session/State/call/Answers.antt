-- `State::call`: by the kind.
use native.Mathlib.Omega.{arith}
use Rattle.engine.specs.Session.SessionCalls.{steps_other}
use Rattle.engine.proofs.session.State.call.Goals as goal

pub returns-in-1-clause-promised : goal.returns-in-1-clause-promised
returns-in-1-clause-promised c = λ m s. rw c.in-1.is (c.activate.ensures.promised m s)

pub returns-in-2-clause-promised : goal.returns-in-2-clause-promised
returns-in-2-clause-promised c = λ m s. c.extract.ensures.promised _ c.in-2.is m s

pub returns-in_default-clause-promised : goal.returns-in_default-clause-promised
returns-in_default-clause-promised c = λ m s. rw c.refused.ensures (steps_other _ _ _ _ _ m s _ (λ e. omega arith) (λ e. omega arith))
