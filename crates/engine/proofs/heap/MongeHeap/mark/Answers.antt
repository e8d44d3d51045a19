-- `MongeHeap::mark` returns its word, which fits.
use mathlib.Core.Path.{refl}
use Prim.Native.Nat.{◌+◌}
use native.Mathlib.Omega.{arith}
use Rattle.definitions.specs.HeapWords.{mark_word, interval_start, mark_at}
use Rattle.engine.proofs.heap.MongeHeap.mark.Goals as goal

pub returns : goal.returns
unfolding mark_at
returns c = record { is = refl; fits = omega (arith, c.type_inv.heap (interval_start c.args.column + mark_word)) }
