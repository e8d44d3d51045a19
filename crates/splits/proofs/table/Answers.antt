-- The constant is the computed list: both are compared number by number.
use mathlib.Core.Path.{refl}
use Rattle.definitions.specs.Blocks.{all_splits, splits_up_to, splits_of, splits}
use Rattle.splits.specs.Table.{flattened}
use Rattle.splits.proofs.table.Goals as goal

pub returns : goal.returns
unfolding flattened all_splits splits_up_to splits_of splits
returns c = refl
