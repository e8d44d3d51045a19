-- `judge`: cause by cause, as the definition orders them.
use Rattle.std.proofs.Common.{◌∙◌, rules}
use Rattle.std.proofs.lemmas.Result.{err_from_is_err_and}
use Rattle.definitions.specs.Entries.{judge_session, has_places}
use Rattle.judgements.proofs.OneAfterAnother.{first_is, next_is}
use Rattle.engine.specs.Session.Judged.{sizes_fit, judged_lengths, judged_rest}
use Rattle.engine.proofs.session.judge.Goals as goal

pub returns-in_err-require : goal.returns-in_err-require
unfolding judge_session has_places sizes_fit
returns-in_err-require c = search (rules, first_is)

pub returns-in_err-require-2 : goal.returns-in_err-require-2
unfolding judge_session has_places sizes_fit
returns-in_err-require-2 c = search (rules, first_is, next_is)

pub returns-in_err-judge_lengths : goal.returns-in_err-judge_lengths
returns-in_err-judge_lengths c =
    let r = c.from_residual-in_err-judge_lengths in
    let p = err_from_is_err_and r.result r.ensures.1 in
    let fit = rw c.sizes_fit.ensures at c.in_ok-require.ensures in
    rw (p.1, p.2) (judged_lengths _ _ _ _ _ _ _ _ fit c.in_ok-require-2.ensures c.in_err-judge_lengths.ensures)

pub returns : goal.returns
returns c =
    let fit = rw c.sizes_fit.ensures at c.in_ok-require.ensures in
    c.require-3.ensures ∙ judged_rest _ _ _ _ _ _ _ fit c.in_ok-require-2.ensures c.in_ok-judge_lengths.ensures _ c.is_monge.ensures
