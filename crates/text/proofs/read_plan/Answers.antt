-- `read_plan`: the first line, then what `read_body` reads.
use Rattle.text.specs.Returns.{stopped}
use Rattle.text.specs.Plans.{plan_stop, pieces_inside, plan_body}
use Rattle.text.proofs.read_plan.Goals as goal

pub returns-in_err-read_line : goal.returns-in_err-read_line
returns-in_err-read_line c = stopped _ _ _ _ c.from_residual.ensures.1 (plan_stop _ _ c.in_err-read_line.ensures)

pub read_body-requires : goal.read_body-requires
read_body-requires c = (pieces_inside _ _ c.in_ok-read_line.ensures, c.requires)

pub returns : goal.returns
returns c = plan_body _ _ c.in_ok-read_line.ensures _ _ _ _ c.read_body.ensures
