-- `put_rest` writes what is left of an interval.
use native.Mathlib.Omega.{arith}
use borrow.Author.Tests.{lt-ltb}
use Rattle.engine.specs.Heap.Clear.{rest_len, rest_none, rest_some}
use Rattle.engine.proofs.heap.put_rest.Goals as goal

pub put_columns-requires : goal.put_columns-requires
unfolding rest_len
put_columns-requires c =
    let p = c.requires in
    record { fits = (omega (arith, simp (lt-ltb _ _ c.if-first-end.true) at p.fits.0), c.if-first-end.true, p.fits.1); inside = p.inside }

pub returns-then-first-end : goal.returns-then-first-end
returns-then-first-end c = rest_some _ _ _ _ _ _ _ _ _ c.if-first-end.true c.put_columns.ensures

pub returns-else-first-end : goal.returns-else-first-end
returns-else-first-end c = rest_none _ _ _ _ _ _ _ _ c.if-first-end.false
