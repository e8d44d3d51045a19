-- `read_lent`: the two refusals that leave the buffers, then the plan in buffers that are 0, cleared again if it is refused.
use mathlib.Core.Path.{sym, ◌∙◌}
use Rattle.text.specs.Plans.{cleared_held, after_plan, after_cause}
use Rattle.text.proofs.read_lent.Goals as goal

pub read_plan-plan-requires : goal.read_plan-plan-requires
read_plan-plan-requires c = cleared_held _ _ _ c.in_ok-judge_buffers.ensures _ _ _ c.clear.ensures

pub returns-then-is_err : goal.returns-then-is_err
returns-then-is_err c =
    let r = c.read_plan-plan in
    after_cause _ _ _ _ c.in_ok-judge_buffers.ensures c.if-text-gt-MAX_BYTES.false r.result _ _ _ _ _ _ (sym c.if-is_err.ensures.value) r.ensures
    (r.auto.sizes ∙ c.clear.auto.sizes) (r.auto.vertices ∙ c.clear.auto.vertices) (r.auto.lengths ∙ c.clear.auto.lengths) c.clear-then-is_err.ensures

pub returns-else-is_err : goal.returns-else-is_err
returns-else-is_err c =
    let r = c.read_plan-plan in
    after_plan _ _ _ _ c.in_ok-judge_buffers.ensures c.if-text-gt-MAX_BYTES.false r.result _ _ _ (sym c.if-is_err.ensures.value) r.ensures
