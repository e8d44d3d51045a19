-- `table_is_monge`: the table has its places, the size does not leave them, and every block passes.
use mathlib.Core.Path.{sym, ◌∙◌}
use native.Mathlib.Omega.{arith}
use Rattle.monge.specs.Matrix.{table_monge_in}
use Rattle.monge.proofs.RowLaws.{lies}
use Rattle.monge.proofs.table_is_monge.Goals as goal

pub returns-then-not-lies_in : goal.returns-then-not-lies_in
unfolding table_monge_in
returns-then-not-lies_in c = rw (sym c.lies_in.ensures ∙ c.if-not-lies_in.true)

pub blocks_pass-requires : goal.blocks_pass-requires
blocks_pass-requires c = let s = lies _ _ _ _ _ (sym c.lies_in.ensures ∙ c.if-not-lies_in.false) in (s.0, omega (arith, s.1), c.table-list.ensures)

pub returns : goal.returns
unfolding table_monge_in
returns c = rw (sym c.lies_in.ensures ∙ c.if-not-lies_in.false) c.blocks_pass.ensures
