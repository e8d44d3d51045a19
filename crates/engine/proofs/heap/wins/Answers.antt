-- `wins` compares the sums through the row and through the parent.
use native.Mathlib.Omega.{arith}
use Rattle.engine.specs.Heap.Search.{wins}
use Rattle.engine.proofs.heap.wins.Goals as goal

pub interval-parent-requires : goal.interval-parent-requires
interval-parent-requires c = omega (arith, c.requires.0.laid.words, c.requires.1)

pub is_below-requires : goal.is_below-requires
is_below-requires c =
    let p = c.requires in
    let l = p.0.laid in
    let q = c.interval-parent.ensures.parent_is in
    record {
      row_in_lem = p.0.row_in_lem;
      other_in = omega (arith, l.parent_in _ p.1, q);
      labelled = l.labelled;
      columns = omega (arith, l.columns _ p.1, p.2.1);
      fits = rw q (l.fits _ _ p.1 p.2);
    }

pub returns : goal.returns
unfolding wins
returns c = rw (c.is_below.ensures, c.interval-parent.ensures.parent_is)
