-- `read_line`: the fields lie in the text, so that the place behind them fits its type.
use borrow.Author.Rules.{rules}
use Rattle.text.specs.Returns.{stopped, line_stop, line_in, line_end}
use Rattle.text.proofs.read_line.Goals as goal

pub returns-in_err-read_fields : goal.returns-in_err-read_fields
returns-in_err-read_fields g c = stopped _ _ _ _ c.from_residual.ensures.1 (line_stop _ _ _ _ _ c.in_err-read_fields.ensures)

pub overflow_add-at : goal.overflow_add-at
overflow_add-at g c =
    let h = line_in _ _ _ _ _ c.in_ok-read_fields.ensures c.requires in
    search rules

pub returns : goal.returns
returns g c = line_end _ _ _ _ _ c.in_ok-read_fields.ensures _ c.judge_line_end.ensures
