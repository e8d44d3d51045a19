-- `MongeHeap::interval` reads the words of one interval.
use mathlib.Core.Path.{refl}
use Rattle.definitions.specs.HeapWords.{parent_at, first_at, last_at, best_column_at, best_sum_at}
use Rattle.engine.proofs.heap.MongeHeap.interval.Goals as goal

pub returns : goal.returns
unfolding parent_at first_at last_at best_column_at best_sum_at
returns c = record { parent_is = refl; first_is = refl; last_is = refl; best_column_is = refl; best_sum_is = refl }
