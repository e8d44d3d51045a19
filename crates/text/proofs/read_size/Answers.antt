-- `read_size`: the field, then its judgement.
use mathlib.Core.Path.{refl, sym, ap, ◌∙◌}
use Rattle.definitions.specs.Judgement.{judge_size}
use Rattle.definitions.specs.Reading.{value}
use Rattle.text.specs.ReadSteps.{judged_go, judged_stop}
use Rattle.text.specs.Returns.{stopped, judged_cause}
use Rattle.text.proofs.read_size.Goals as goal

pub returns-in_err-m : goal.returns-in_err-m
returns-in_err-m c = stopped _ _ _ _ c.from_residual.ensures.1 (judged_stop judge_size _ _ c.in_err-m.ensures)

pub returns-in_err-judge_size : goal.returns-in_err-judge_size
returns-in_err-judge_size c =
    let field = c.in_ok-m.ensures in
    stopped _ _ _ _ c.from_residual-in_err-judge_size.ensures.1 (judged_cause judge_size _ _ (field.1 ∙ ap value (sym field.2)) _ c.in_err-judge_size.ensures)

pub returns : goal.returns
returns c =
    let field = c.in_ok-m.ensures in
    (_, judged_go judge_size _ _ (field.1 ∙ ap value (sym field.2)) (sym c.in_ok-judge_size.ensures), refl)
