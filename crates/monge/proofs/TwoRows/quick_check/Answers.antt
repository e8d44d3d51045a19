-- `quick_check`: the rows passed agree; the loop ends at the last row, or at the first that does not agree.
use mathlib.Core.Path.{◌≡◌, refl, sym, ◌∙◌}
use native.Mathlib.Omega.{arith}
use Rattle.definitions.specs.Lists.{all}
use Rattle.monge.specs.Matrix.{quick_in}
use Rattle.basics.specs.ListLaws.{all_next, all_fails}
use Rattle.monge.proofs.TwoRows.quick_check.Goals as goal

pub loop-i-init : goal.loop-i-init
unfolding all
loop-i-init c = refl

pub returns-then-not-quick_rows : goal.returns-then-not-quick_rows
unfolding quick_in
returns-then-not-quick_rows c = sym (all_fails _ _ c.loop-i.i c.loop-i-test.true (sym c.quick_rows.ensures ∙ c.if-not-quick_rows.true))

pub loop-i-preserved : goal.loop-i-preserved
loop-i-preserved c = all_next _ _ c.loop-i.invariant (sym c.quick_rows.ensures ∙ c.if-not-quick_rows.false)

pub returns : goal.returns
unfolding quick_in
returns c =
    let e : c.loop-i.i ≡ c.args.rows = omega arith in
    rw (← e) (sym c.loop-i.invariant)
