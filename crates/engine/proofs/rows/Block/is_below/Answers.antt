-- `is_below` compares the sum in 64 bits with one of 32.
use mathlib.Core.Path.{refl}
use native.Mathlib.Omega.{arith}
use Rattle.definitions.specs.HeldModel.{lent_entry}
use Rattle.engine.specs.Heap.RowBest.{sum_at}
use Rattle.engine.specs.Heap.Search.{below_is}
use Rattle.engine.proofs.rows.Block.is_below.Goals as goal

pub sum_at-requires : goal.sum_at-requires
sum_at-requires c = let p = c.requires in (p.other_in, omega (arith, p.other_in, p.labelled), p.columns, p.fits)

pub returns : goal.returns
unfolding sum_at lent_entry
returns c =
    let a = c.args in
    let s = a.self.now in
    below_is s.rows.now s.col0 s.labels.now a.r a.q a.column _ _ refl c.sum_at.ensures (rw c.sum_at.ensures c.requires.fits)
