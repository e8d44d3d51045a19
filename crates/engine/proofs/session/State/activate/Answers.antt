-- `State::activate`: the judgement is the model's; the label is written before the heap reads it.
use Rattle.std.proofs.Common.{refl, ◌∙◌, arith}
use Rattle.engine.specs.Session.Judged.{not_done}
use Rattle.engine.specs.Session.SessionCalls.{steps_refused, judge_is, can_activate, steps_activate}
use Rattle.engine.proofs.session.State.activate.Goals as goal

pub returns-in-Err-clause-promised : goal.returns-in-Err-clause-promised
returns-in-Err-clause-promised c = λ m s. rw c.refused.ensures (steps_refused _ _ _ _ _ m s _ _ (c.in-Err.ensures ∙ judge_is _ _ _ _ _ m s _ _) (not_done _))

pub bounds-self-place : goal.bounds-self-place
bounds-self-place c = let p = c.requires in omega (arith, (can_activate _ _ _ _ _ p.0 p.1 _ _ _ c.in_default.ensures refl).row_in_lem, p.1.held.labelled)

pub activate-change-requires : goal.activate-change-requires
activate-change-requires c =
    let p = c.requires in
    let b = c.block.ensures in
    rw (b.rows, b.columns.0, b.columns.1, b.labels) (p.0, can_activate _ _ _ _ _ p.0 p.1 _ _ _ c.in_default.ensures refl)

pub returns-clause-promised : goal.returns-clause-promised
returns-clause-promised c =
    λ m s.
    let q = c.in_default.ensures in
    let b = c.block.ensures in
    let done = rw (b.rows, b.columns.0, b.columns.1, b.labels) at c.activate-change.ensures.held in
    steps_activate _ _ _ _ _ m s _ _ _ q refl _ _ _ (done m (can_activate _ _ _ _ _ m s _ _ _ q refl)).changed
