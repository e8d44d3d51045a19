-- `read_row`: the line, then its judgement.
use Rattle.text.specs.ReadSteps.{judged_stop}
use Rattle.text.specs.Returns.{stopped, judged_left}
use Rattle.text.proofs.read_row.Goals as goal

pub returns-in_err-read_line : goal.returns-in_err-read_line
returns-in_err-read_line c = stopped _ _ _ _ c.from_residual.ensures.1 (judged_stop _ _ _ c.in_err-read_line.ensures)

pub returns : goal.returns
returns c = judged_left _ _ _ c.in_ok-read_line.ensures _ c.judge_row.ensures
