-- `MongeHeap::reached` returns its word, which fits.
use mathlib.Core.Path.{refl}
use native.Mathlib.Omega.{arith}
use Rattle.definitions.specs.HeapWords.{reached_word, reached_of}
use Rattle.engine.proofs.heap.MongeHeap.reached.Goals as goal

pub overflow_cast-result : goal.overflow_cast-result
overflow_cast-result c = omega (arith, c.type_inv.heap reached_word)

pub returns : goal.returns
unfolding reached_of
returns c = record { is = refl; fits = omega (arith, c.type_inv.heap reached_word) }
