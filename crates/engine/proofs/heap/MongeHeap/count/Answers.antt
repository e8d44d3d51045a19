-- `MongeHeap::count` returns its word, which fits.
use mathlib.Core.Path.{refl}
use native.Mathlib.Omega.{arith}
use Rattle.definitions.specs.HeapWords.{count_word, count_of}
use Rattle.engine.proofs.heap.MongeHeap.count.Goals as goal

pub overflow_cast-result : goal.overflow_cast-result
overflow_cast-result c = omega (arith, c.type_inv.heap count_word)

pub returns : goal.returns
unfolding count_of
returns c = record { is = refl; fits = omega (arith, c.type_inv.heap count_word) }
