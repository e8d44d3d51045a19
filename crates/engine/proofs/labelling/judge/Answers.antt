-- `labelling::judge` meets its contract: cause by cause, as the definition orders them.
use Rattle.std.proofs.lemmas.Result.{err_from_is_err_and}
use Rattle.definitions.specs.Entries.{judge_labelling, has_places}
use Rattle.judgements.proofs.OneAfterAnother.{not_none, first_is}
use Rattle.engine.specs.Labeller.LabelEntry.{judged_network, judged_source}
use Rattle.engine.proofs.labelling.judge.Goals as goal

pub returns-in_err-require : goal.returns-in_err-require
unfolding judge_labelling has_places
returns-in_err-require c =
    let p = err_from_is_err_and c.from_residual.result c.from_residual.ensures.1 in
    rw (p.1, p.2) (first_is _ _ _ c.in_err-require.ensures)

pub returns-in_err-judge_network : goal.returns-in_err-judge_network
unfolding has_places
returns-in_err-judge_network c =
    let r = c.from_residual-in_err-judge_network in
    let p = err_from_is_err_and r.result r.ensures.1 in
    rw (p.1, p.2) (judged_network _ _ _ _ _ _ _ c.in_ok-require.ensures _ (not_none _) c.in_err-judge_network.ensures)

pub returns : goal.returns
unfolding has_places
returns c = judged_source _ _ _ _ _ _ _ c.in_ok-require.ensures c.in_ok-judge_network.ensures _ c.judge_source.ensures
