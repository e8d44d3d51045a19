-- `sums_agree`: the right side, then the left, then the numbers, added in 64 bits.
use mathlib.Core.Logic.{inl, inr, ⊎_elim}
use Rattle.monge.proofs.RowLaws.{right_none, left_none, numbers}
use Rattle.monge.proofs.sums_agree.Goals as goal

pub returns-then-b-eq-NO_PATH : goal.returns-then-b-eq-NO_PATH
returns-then-b-eq-NO_PATH c =
    let x = c.args in
    right_none x.a x.d x.b x.c (⊎_elim (λ u. inl u) (λ u. inr u.1) c.then-b-eq-NO_PATH.either)

pub returns-then-a-eq-NO_PATH : goal.returns-then-a-eq-NO_PATH
returns-then-a-eq-NO_PATH c =
    let x = c.args in
    left_none x.a x.d x.b x.c c.if-b-eq-NO_PATH.false c.if-c-eq-NO_PATH.false (⊎_elim (λ u. inl u) (λ u. inr u.1) c.then-a-eq-NO_PATH.either)

pub returns : goal.returns
returns c =
    let x = c.args in
    rw (c.from.ensures, c.from-2.ensures, c.from-3.ensures, c.from-4.ensures)
    (numbers x.a x.d x.b x.c c.if-b-eq-NO_PATH.false c.if-c-eq-NO_PATH.false c.if-a-eq-NO_PATH.false c.if-d-eq-NO_PATH.false)
