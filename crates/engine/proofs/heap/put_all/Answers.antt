-- `put_all` writes the number of intervals, the one interval, and the marks.
use mathlib.Core.Path.{◌∙◌}
use native.Mathlib.Nat.{le_refl}
use native.Mathlib.Omega.{arith}
use lib.ListN.{length-set}
use Rattle.engine.proofs.heap.put_all.Goals as goal

pub put_columns-requires : goal.put_columns-requires
put_columns-requires c = let p = c.requires in record { fits = (simp length-set (omega (arith, p.0, p.1)), p.1, p.2); inside = le_refl _ }

pub mark_all-requires : goal.mark_all-requires
mark_all-requires c =
    let p = c.requires in
    (omega (arith, p.0, c.put_columns.ensures.outside.long, length-set c.args.heap.now 0 1), omega (arith, p.2.columns))

pub shape_of-heap : goal.shape_of-heap
shape_of-heap c = c.mark_all.ensures.keeps.long ∙ simp length-set at c.put_columns.ensures.outside.long

pub returns : goal.returns
returns c = record { between = _; put = c.put_columns.ensures; marked = c.mark_all.ensures }
