-- `State::extract`: by what the extraction answers.
use Rattle.engine.specs.Session.SessionCalls.{steps_none, steps_column}
use Rattle.engine.proofs.session.State.extract.Goals as goal

pub extract_min-requires : goal.extract_min-requires
extract_min-requires c =
    let p = c.requires in
    let b = c.block.ensures in
    rw (b.rows, b.columns.0, b.columns.1, b.labels) (p.0, p.1.held)

pub returns-in_default-clause-promised : goal.returns-in_default-clause-promised
returns-in_default-clause-promised c =
    λ k q m s.
    let b = c.block.ensures in
    let done = rw (b.rows, b.columns.0, b.labels, c.in_default.is) at c.extract_min.ensures.held in
    rw c.refused.ensures (steps_none _ _ _ _ _ m s k q _ _ _ (done _ m s.held))

pub returns-clause-promised : goal.returns-clause-promised
returns-clause-promised c =
    λ k q m s.
    let b = c.block.ensures in
    let done = rw (b.rows, b.columns.0, b.labels, c.in-Some.is) at c.extract_min.ensures.held in
    steps_column _ _ _ _ _ m s k q _ _ _ _ _ (done _ m s.held)
