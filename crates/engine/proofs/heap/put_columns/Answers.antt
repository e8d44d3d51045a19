-- `put_columns` writes an interval that is made, with the best of its columns.
use native.Mathlib.Omega.{arith}
use Rattle.engine.specs.Heap.RowBest.{drawn_is}
use Rattle.engine.proofs.heap.put_columns.Goals as goal

pub best_in-column-requires : goal.best_in-column-requires
best_in-column-requires c = let p = c.requires in record { reads = (p.fits.2.row_in_lem, p.fits.1, p.inside); paths = p.fits.2.paths }

pub sum_at-sum-requires : goal.sum_at-sum-requires
sum_at-sum-requires c =
    let p = c.requires.fits.2 in
    let b = c.best_in-column.ensures in
    (p.row_in_lem, omega (arith, p.row_in_lem, p.labelled), omega (arith, p.columns, b.high), p.fits _ b.low b.high)

pub overflow_cast-columns : goal.overflow_cast-columns
overflow_cast-columns c = omega (arith, c.requires.fits.2.small)

pub overflow_cast-columns-2 : goal.overflow_cast-columns-2
overflow_cast-columns-2 c = let p = c.requires.fits in omega (arith, p.1, p.2.columns)

pub overflow_cast-columns-3 : goal.overflow_cast-columns-3
overflow_cast-columns-3 c = let p = c.requires.fits in omega (arith, p.1, p.2.columns)

pub overflow_cast-columns-4 : goal.overflow_cast-columns-4
overflow_cast-columns-4 c = let p = c.requires.fits in omega (arith, p.2.columns, c.best_in-column.ensures.high)

pub returns : goal.returns
returns c = rw (← drawn_is _ _ _ _ _ _ _ _ c.best_in-column.ensures c.sum_at-sum.ensures) c.put.ensures
