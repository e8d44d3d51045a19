-- `judge_question` judges the buffers, then the sides.
use Rattle.std.proofs.Common.{◌∙◌, refl}
use Rattle.std.proofs.lemmas.Result.{err_from_is_err_and}
use Rattle.index.specs.IndexEntries.{a_number, question_buffers, question_sides}
use Rattle.index.proofs.entries.judge_question.Goals as goal

pub returns-in_err-judge_buffers : goal.returns-in_err-judge_buffers
returns-in_err-judge_buffers c =
    let a = c.args in
    let p = err_from_is_err_and c.from_residual.result c.from_residual.ensures.1 in
    rw (p.1, p.2) (question_buffers a.rows a.cols a.lengths.now a.index.now _ c.in_err-judge_buffers.ensures (a_number _))

pub returns : goal.returns
returns c =
    let a = c.args in
    c.judge_sides.ensures ∙ question_sides a.rows a.cols a.lengths.now a.index.now 0 c.in_ok-judge_buffers.ensures refl
