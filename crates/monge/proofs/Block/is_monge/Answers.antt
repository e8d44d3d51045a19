-- `is_monge`: the block lies in its table, and its rows agree, each two of them exchanged.
use mathlib.Core.Path.{sym, ◌∙◌}
use native.Mathlib.Omega.{arith}
use Rattle.monge.specs.Matrix.{block_monge_in}
use Rattle.monge.specs.Rectangles.{block_rows}
use Rattle.monge.proofs.RowLaws.{lies}
use Rattle.monge.proofs.Block.is_monge.Goals as goal

pub returns-then-not-lies_in : goal.returns-then-not-lies_in
unfolding block_monge_in
returns-then-not-lies_in c = rw (sym c.lies_in.ensures ∙ c.if-not-lies_in.true)

pub overflow_mul-rows : goal.overflow_mul-rows
overflow_mul-rows c = let s = lies _ _ _ _ _ (sym c.lies_in.ensures ∙ c.if-not-lies_in.false) in omega (arith, s.1, s.2)

pub overflow_add-rows : goal.overflow_add-rows
overflow_add-rows c = let s = lies _ _ _ _ _ (sym c.lies_in.ensures ∙ c.if-not-lies_in.false) in omega (arith, s.1, s.2)

pub all_agree-requires : goal.all_agree-requires
all_agree-requires c = let s = lies _ _ _ _ _ (sym c.lies_in.ensures ∙ c.if-not-lies_in.false) in λ j l. omega (arith, s.0, s.1, s.2)

pub returns : goal.returns
unfolding block_monge_in
returns c =
    let a = c.args in
    rw (sym c.lies_in.ensures ∙ c.if-not-lies_in.false, ← block_rows a.lengths.now a.self.rows a.self.cols a.self.row0 a.self.col0) c.all_agree.ensures
