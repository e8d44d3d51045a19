-- `has_path` compares the entry with no path.
use mathlib.Core.Path.{refl}
use Rattle.definitions.specs.HeldModel.{lent_entry}
use Rattle.engine.specs.Heap.RowRuns.{has_path}
use Rattle.engine.proofs.rows.Block.has_path.Goals as goal

pub returns : goal.returns
unfolding has_path lent_entry
returns c = refl
