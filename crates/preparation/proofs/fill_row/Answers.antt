-- `fill_row`: after k turns the first k places are the definition's.
use Rattle.std.proofs.Common.{◌≡◌, ◌-◌, ◌*◌, ◌+◌, get_or, drop, arith}
use Rattle.std.proofs.lemmas.List.{get_or-take, get_or-drop}
use Rattle.definitions.specs.Limits.{row_places}
use Rattle.basics.specs.Buffers.{filled_none, filled_more}
use Rattle.preparation.specs.Prepared.{matrix_entry, matrix_row}
use Rattle.preparation.proofs.TableLaws.{filled_all}
use Rattle.preparation.proofs.fill_row.Goals as goal

pub loop-k-init : goal.loop-k-init
loop-k-init c = filled_none _ _

pub loop-k-preserved : goal.loop-k-preserved
loop-k-preserved c =
    let a = c.args in
    let l = c.loop-k in
    let from = row_places * a.r in
    let i = row_places - 1 - l.k in
    let there : get_or c.copy_from_slice.new.self i 0 ≡ matrix_entry a.lengths.now a.r l.k =
    rw (c.copy_from_slice.ensures.after, get_or-take (from + row_places - from) (drop from a.lengths.now) i 0 (omega arith)) (get_or-drop from a.lengths.now i 0) in
    rw (there, l.invariant) (filled_more _ l.k _ (omega arith))

pub returns : goal.returns
unfolding matrix_row
returns c = let l = c.loop-k in rw l.invariant (filled_all _ row_places l.k _ (omega arith) (omega arith))
