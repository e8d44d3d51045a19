-- `build_stretch` calls itself on both halves, then fills the place of the whole; the number of columns falls.
use Rattle.std.proofs.Common.{arith}
use Rattle.index.specs.HeldLaws.{rows_halved, rows_cut}
use Rattle.index.proofs.+build_stretch.Goals as goal

pub cut_rows-requires-clause-halves : goal.cut_rows-requires-clause-halves
cut_rows-requires-clause-halves t c =
    let a = c.args in
    let s = a.stretch in
    let e = c.first_half-first.ensures in
    let f = c.second_half.ensures in
    rows_halved a.index.now a.rows.now a.at s.start s.count (omega arith) c.told-index (omega arith) (omega arith) _ _ (rw (e.start, e.count) at c.build_stretch.ensures) (rw (e.count, f.start, f.count) at c.build_stretch-2.ensures)

pub returns : goal.returns
returns t c =
    let a = c.args in
    let s = a.stretch in
    let e = c.first_half-first.ensures in
    let f = c.second_half.ensures in
    rows_cut a.index.now a.rows.now a.at s.start s.count (omega arith) c.told-index (omega arith) (omega arith) _ _ (rw (e.start, e.count) at c.build_stretch.ensures) (rw (e.count, f.start, f.count) at c.build_stretch-2.ensures) _ c.cut_rows.ensures
