-- `fields::column` meets its contract.
use borrow.Author.Tests.{eq-eqb, ne_eqb}
use Rattle.fields.specs.NineColumns.{column_of}
use Rattle.fields.proofs.column.Goals as goal

pub returns-then-rest-eq0 : goal.returns-then-rest-eq0
unfolding column_of
returns-then-rest-eq0 c = simp (eq-eqb _ _ c.if-rest-eq0.true)

pub returns : goal.returns
unfolding column_of
returns c = simp (ne_eqb _ _ c.if-rest-eq0.false)
