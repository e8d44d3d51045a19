-- `neighbours_agree`: the places passed agree, and the last open one is carried.
use mathlib.Core.Path.{◌≡◌, refl, sym}
use mathlib.Core.Bool.{true, false}
use native.Mathlib.Omega.{arith}
use Rattle.definitions.specs.Lists.{all}
use Rattle.monge_laws.specs.Neighbours.{last_below, neighbours}
use Rattle.monge.proofs.RowLaws.{closed, first_open, next_open, disagrees}
use Rattle.monge.proofs.neighbours_agree.Goals.{in-Some+else-not-agree, in_default}
use Rattle.monge.proofs.neighbours_agree.Goals as goal

pub loop-l-init : goal.loop-l-init
unfolding all neighbours last_below
loop-l-init g c = record { before = omega arith; agree = λ p ok _ _. (refl, refl) }

pub loop-l-preserved-then-not-is_open : goal.loop-l-preserved-then-not-is_open
loop-l-preserved-then-not-is_open g c =
    let l = c.loop-l in
    record {
      before = omega (arith, l.invariant.before);
      agree = λ p ok hp hok. let h = l.invariant.agree p ok hp hok in closed p ok l.l _ (hp l.l false c.loop-l-test.true c.if-not-is_open.ensures) h.0 h.1;
    }

pub returns-then-not-agree : goal.returns-then-not-agree
returns-then-not-agree g c p ok hp hok =
    let l = c.loop-l in
    let k = c.in-Some.k in
    let h = l.invariant.agree p ok hp hok in
    disagrees p ok l.l k (hp l.l true c.loop-l-test.true c.if-not-is_open.ensures) (rw c.in-Some.is at h.0)
    (hok k l.l false (rw c.in-Some.is at l.invariant.before) c.loop-l-test.true c.if-not-agree.ensures) _ c.loop-l-test.true

pub loop-l-preserved : goal.loop-l-preserved
loop-l-preserved g c =
    let l = c.loop-l in
    elim c.match-last.branch [
      | in-Some+else-not-agree w ↦ record {
        before = omega arith;
        agree = λ p ok hp hok. let h = l.invariant.agree p ok hp hok in
            next_open p ok l.l w.in-Some.k (hp l.l true c.loop-l-test.true c.if-not-is_open.ensures) (rw w.in-Some.is at h.0)
            (hok w.in-Some.k l.l true (rw w.in-Some.is at l.invariant.before) c.loop-l-test.true w.if-not-agree.ensures) h.1;
      }
      | in_default w ↦ record {
        before = omega arith;
        agree = λ p ok hp hok. let h = l.invariant.agree p ok hp hok in
            first_open p ok l.l (hp l.l true c.loop-l-test.true c.if-not-is_open.ensures) (rw w.in_default.is at h.0) h.1;
      }
    ]

pub returns : goal.returns
returns g c p ok hp hok =
    let e : c.loop-l.l ≡ c.args.count = omega arith in
    rw (← e) (sym (c.loop-l.invariant.agree p ok hp hok).1)
