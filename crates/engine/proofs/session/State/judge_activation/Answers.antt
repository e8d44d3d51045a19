-- `State::judge_activation` tests in the definition's order.
use Prim.Native.Nat.{◌≤◌, ◌<◌}
use native.Mathlib.Omega.{arith}
use borrow.Author.Tests.{le-leb, lt-leb, eq-eqb, ne_eqb, lt-ltb, le-ltb}
use Rattle.definitions.specs.Limits.{max_label}
use Rattle.engine.specs.Session.SessionCalls.{judge_activation}
use Rattle.engine.proofs.session.State.judge_activation.Goals as goal

pub returns-then-place-rows : goal.returns-then-place-rows
unfolding judge_activation
returns-then-place-rows c = simp (le-leb _ _ c.if-place-rows.true)

pub returns-then-self-place : goal.returns-then-self-place
unfolding judge_activation
returns-then-self-place c = simp (lt-leb _ _ c.if-place-rows.false, ne_eqb _ _ c.if-self-place.true)

pub returns-then-label-gt-MAX_LABEL : goal.returns-then-label-gt-MAX_LABEL
unfolding judge_activation
returns-then-label-gt-MAX_LABEL c =
    let label = c.args.label in
    let above : max_label < label = omega (arith, c.if-label-gt-MAX_LABEL.true) in
    simp (lt-leb _ _ c.if-place-rows.false, eq-eqb _ _ c.if-self-place.false, lt-ltb max_label label above)

pub returns-then-label-self : goal.returns-then-label-self
unfolding judge_activation
returns-then-label-self c =
    let label = c.args.label in
    let within : label ≤ max_label = omega (arith, c.if-label-gt-MAX_LABEL.false) in
    simp (lt-leb _ _ c.if-place-rows.false, eq-eqb _ _ c.if-self-place.false, le-ltb max_label label within, lt-ltb _ _ c.if-label-self.true)

pub returns : goal.returns
unfolding judge_activation
returns c =
    let label = c.args.label in
    let allowed : label ≤ max_label = omega (arith, c.if-label-gt-MAX_LABEL.false) in
    simp (lt-leb _ _ c.if-place-rows.false, eq-eqb _ _ c.if-self-place.false, le-ltb max_label label allowed, le-ltb _ _ c.if-label-self.false)
