-- `reaches_first` looks at the mark, then for a path.
use borrow.Author.Tests.{eq-eqb, ne_eqb}
use Rattle.engine.specs.Heap.Search.{reaches_first}
use Rattle.engine.proofs.heap.reaches_first.Goals as goal

pub returns-then-mark-ne0 : goal.returns-then-mark-ne0
unfolding reaches_first
returns-then-mark-ne0 c = rw (← c.mark.ensures.is) (simp (ne_eqb _ _ c.if-mark-ne0.true))

pub returns : goal.returns
unfolding reaches_first
returns c = rw (← c.mark.ensures.is) (simp (eq-eqb _ _ c.if-mark-ne0.false) c.has_path.ensures)
