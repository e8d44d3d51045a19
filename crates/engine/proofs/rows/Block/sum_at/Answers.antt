-- `sum_at`: the label and the entry, whose sum fits.
use mathlib.Core.Path.{refl}
use native.Mathlib.Omega.{arith}
use Rattle.definitions.specs.HeldModel.{lent_entry}
use Rattle.engine.specs.Heap.RowBest.{sum_at}
use Rattle.engine.proofs.rows.Block.sum_at.Goals as goal

pub overflow_add-result-2 : goal.overflow_add-result-2
unfolding sum_at lent_entry
overflow_add-result-2 c = omega (arith, c.requires.3)

pub returns : goal.returns
unfolding sum_at lent_entry
returns c = refl
