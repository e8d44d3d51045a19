-- `extract_min` cuts out the column that `least` finds.
use mathlib.Core.Path.{refl}
use native.Mathlib.Omega.{arith}
use Rattle.engine.specs.Heap.Holds.{laid, within_cols}
use Rattle.engine.specs.Heap.Clear.{cut_few}
use Rattle.engine.specs.Heap.LeastColumn.{found_inside}
use Rattle.engine.specs.Heap.HeapCalls.{extracted_none, extracted_needs, extracted_inside, extracted_some}
use Rattle.engine.proofs.heap.extract_min.Goals as goal

pub least-requires : goal.least-requires
least-requires c = (laid _ _ _ _ _ _ c.requires.1).words

pub returns-in_err-lowest : goal.returns-in_err-lowest
returns-in_err-lowest c = rw c.from_residual.ensures (record { held = λ cols m h. extracted_none _ _ _ _ _ _ h c.in_err-lowest.ensures; long = refl })

pub interval-parent-requires : goal.interval-parent-requires
interval-parent-requires c =
    let inside = found_inside _ _ _ _ _ _ c.requires.1 _ c.in_ok-lowest.ensures in
    omega (arith, inside.0, (laid _ _ _ _ _ _ c.requires.1).words)

pub cut-inserted-requires : goal.cut-inserted-requires
cut-inserted-requires c =
    let p = c.requires in
    let inside = found_inside _ _ _ _ _ _ p.1 _ c.in_ok-lowest.ensures in
    record { fits = extracted_needs _ _ _ _ _ _ p.1 _ _ inside.0 inside.1 0; inside = within_cols _ _ _ _ _ _ p.1 _ inside.0 }

pub overflow_cast-inserted : goal.overflow_cast-inserted
overflow_cast-inserted c = omega (arith, cut_few _ _ _ _ _ c.cut-inserted.ensures)

pub overflow_cast-result : goal.overflow_cast-result
overflow_cast-result c =
    let inside = found_inside _ _ _ _ _ _ c.requires.1 _ c.in_ok-lowest.ensures in
    omega (arith, (extracted_inside _ _ _ _ _ _ c.requires.1 _ _ inside.0 inside.1).1)

pub returns : goal.returns
returns c =
    let here = c.in_ok-lowest.ensures in
    let inside = found_inside _ _ _ _ _ _ c.requires.1 _ here in
    let cut = c.cut-inserted.ensures in
    record { held = λ cols m h. extracted_some _ _ _ _ _ _ h _ _ inside.0 inside.1 _ here _ _ _ cut c.interval-parent.ensures.parent_is; long = cut.long }
