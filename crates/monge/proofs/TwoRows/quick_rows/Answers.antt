-- `quick_rows`: the columns passed agree; the loop ends at the last column, or at the first that does not agree.
use mathlib.Core.Path.{◌≡◌, refl, sym, ◌∙◌}
use native.Mathlib.Omega.{arith}
use Rattle.definitions.specs.Lists.{all}
use Rattle.basics.specs.ListLaws.{all_next, all_fails}
use Rattle.monge.proofs.TwoRows.quick_rows.Goals as goal

pub loop-k-init : goal.loop-k-init
unfolding all
loop-k-init c = refl

pub returns-then-not-quick_corners : goal.returns-then-not-quick_corners
returns-then-not-quick_corners c = sym (all_fails _ _ c.loop-k.k c.loop-k-test.true (sym c.quick_corners.ensures ∙ c.if-not-quick_corners.true))

pub loop-k-preserved : goal.loop-k-preserved
loop-k-preserved c = all_next _ _ c.loop-k.invariant (sym c.quick_corners.ensures ∙ c.if-not-quick_corners.false)

pub returns : goal.returns
returns c =
    let e : c.loop-k.k ≡ c.args.self.now.cols = omega arith in
    rw (← e) (sym c.loop-k.invariant)
