-- `read_body`: the bounds, the pieces and the question, each refusal as the definition orders them.
use mathlib.Core.Path.{sym}
use Rattle.definitions.proofs.Laws.CauseLaws.{bounds_in}
use Rattle.text.specs.Returns.{stopped}
use Rattle.text.specs.Plans.{body_bounds, body_pieces, body_question, body_done}
use Rattle.text.proofs.read_body.Goals as goal

pub returns-in_err-judge_bounds : goal.returns-in_err-judge_bounds
returns-in_err-judge_bounds c = stopped _ _ _ _ c.from_residual.ensures.1 (body_bounds _ _ _ _ c.in_err-judge_bounds.ensures)

pub read_pieces-requires : goal.read_pieces-requires
read_pieces-requires c = (c.requires.0, (bounds_in _ _ (sym c.in_ok-judge_bounds.ensures)).1, c.requires.1)

pub returns-in_err-next : goal.returns-in_err-next
returns-in_err-next c = stopped _ _ _ _ c.from_residual-in_err-next.ensures.1 (body_pieces _ _ _ c.in_ok-judge_bounds.ensures _ c.in_err-next.ensures)

pub returns-in_err-question : goal.returns-in_err-question
returns-in_err-question c = stopped _ _ _ _ c.from_residual-in_err-question.ensures.1 (body_question _ _ _ c.in_ok-judge_bounds.ensures _ _ _ _ c.in_ok-next.ensures _ c.in_err-question.ensures)

pub returns : goal.returns
returns c = body_done _ _ _ c.in_ok-judge_bounds.ensures _ _ _ _ c.in_ok-next.ensures _ c.in_ok-question.ensures
