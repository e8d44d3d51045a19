-- `is_monge`: the rectangle lies in its places, and it is empty, or its rows pass the quick check, or agree.
use mathlib.Core.Path.{sym, ◌∙◌}
use mathlib.Core.Logic.{inl, inr, ⊎_elim}
use native.Mathlib.Omega.{arith}
use Rattle.monge.specs.Matrix.{monge_in}
use Rattle.monge.specs.Rectangles.{is_monge_none, rectangle_quick, rectangle_rows}
use Rattle.monge.proofs.RowLaws.{lies}
use Rattle.monge.proofs.is_monge.Goals as goal

pub returns-then-not-lies_in : goal.returns-then-not-lies_in
unfolding monge_in
returns-then-not-lies_in c = rw (sym c.lies_in.ensures ∙ c.if-not-lies_in.true)

pub returns-then-rows-eq0 : goal.returns-then-rows-eq0
unfolding monge_in
returns-then-rows-eq0 c =
    let a = c.args in
    rw (sym c.lies_in.ensures ∙ c.if-not-lies_in.false, is_monge_none _ a.rows a.cols (⊎_elim (λ u. inl u) (λ u. inr u.1) c.then-rows-eq0.either))

pub quick_check-requires : goal.quick_check-requires
quick_check-requires c =
    let s = lies _ _ _ _ _ (sym c.lies_in.ensures ∙ c.if-not-lies_in.false) in
    let n = c.if-cols-eq0.false in
    (s.0, λ i l. (omega (arith, s.1, s.2, n), omega (arith, s.1, s.2, n)))

pub all_agree-requires : goal.all_agree-requires
all_agree-requires c = let s = lies _ _ _ _ _ (sym c.lies_in.ensures ∙ c.if-not-lies_in.false) in λ j l. omega (arith, s.0, s.1, s.2)

pub returns-then-quick_check : goal.returns-then-quick_check
unfolding monge_in
returns-then-quick_check c =
    let a = c.args in
    rw (sym c.lies_in.ensures ∙ c.if-not-lies_in.false, rectangle_quick a.lengths.now a.rows a.cols (sym c.quick_check.ensures ∙ c.if-quick_check.true)) c.if-quick_check.true

pub returns-else-quick_check : goal.returns-else-quick_check
unfolding monge_in
returns-else-quick_check c =
    let a = c.args in
    rw (sym c.lies_in.ensures ∙ c.if-not-lies_in.false, ← rectangle_rows a.lengths.now a.rows a.cols) c.all_agree.ensures
