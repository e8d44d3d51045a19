-- `reach_column` marks the column and counts it, or leaves it.
use mathlib.Core.Path.{◌≡◌, sym, ◌∙◌}
use mathlib.Core.Bool.{true}
use native.Mathlib.Omega.{arith}
use borrow.Author.Tests.{eqb-true}
use lib.Dec.{eqb}
use lib.ListN.{length-set}
use Rattle.definitions.specs.HeapWords.{reached_of, mark_at}
use Rattle.logic.specs.Tests.{and_left, and_right}
use Rattle.engine.specs.Heap.Search.{reaches_first}
use Rattle.engine.specs.Heap.Reaching.{reach_small, reach_column, reach_not}
use Rattle.engine.proofs.heap.reach_column.Goals as goal

pub reaches_first-requires : goal.reaches_first-requires
reaches_first-requires c = let p = c.requires in (omega (arith, p.0.words, p.1), p.2, p.1)

pub overflow_add-reached : goal.overflow_add-reached
unfolding reached_of
overflow_add-reached c = let p = c.requires in omega (arith, reach_small _ c.args.block.now.rows.now 0 _ 0 p.0 _ p.1)

pub bounds-heap-1-then-reaches_first : goal.bounds-heap-1-then-reaches_first
bounds-heap-1-then-reaches_first c = simp length-set (omega arith)

pub returns-then-reaches_first : goal.returns-then-reaches_first
unfolding reaches_first reached_of
returns-then-reaches_first c =
    let p = c.requires in
    let a = c.args in
    let t : reaches_first a.heap.now a.block.now.rows.now a.block.now.col0 a.row a.column ≡ true = sym c.reaches_first.ensures ∙ c.if-reaches_first.true in
    reach_column _ _ _ _ _ p.0 _ p.1 t
    (eqb-true _ _ (and_left _ _ t)) (and_right (eqb (mark_at a.heap.now a.column) 0) _ t)

pub returns-else-reaches_first : goal.returns-else-reaches_first
returns-else-reaches_first c = let p = c.requires in reach_not _ _ _ _ _ p.0 _ p.1 (sym c.reaches_first.ensures ∙ c.if-reaches_first.false)
