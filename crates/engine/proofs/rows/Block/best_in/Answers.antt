-- `best_in`: a single column, the lesser of two, or what the index gives.
use mathlib.Core.Path.{◌≡◌}
use Prim.Native.Nat.{◌+◌}
use native.Mathlib.Omega.{arith}
use Rattle.definitions.specs.HeldModel.{lent_entry}
use Rattle.index.specs.IndexTheorems.{indexed_least}
use Rattle.engine.specs.Heap.RowBest.{best_first}
use Rattle.engine.proofs.rows.Block.best_in.Goals as goal

pub returns-then-end-first-lt2 : goal.returns-then-end-first-lt2
returns-then-end-first-lt2 c = let a = c.args in let e : a.end ≡ a.first + 1 = omega arith in rw e (best_first _ _)

pub lesser_of_two-requires : goal.lesser_of_two-requires
lesser_of_two-requires c = let p = c.requires.reads in (p.0, omega (arith, c.if-end-first-eq2.true, p.2, c.args.self.now.indexed.inside))

pub returns-then-end-first-eq2 : goal.returns-then-end-first-eq2
returns-then-end-first-eq2 c = let a = c.args in let e : a.first + 2 ≡ a.end = omega (arith, c.if-end-first-eq2.true) in rw e at c.lesser_of_two.ensures

pub returns : goal.returns
unfolding lent_entry
returns c =
    let p = c.requires.reads in
    let held = c.args.self.now.indexed in
    rw c.least_column.ensures (indexed_least _ _ _ _ held.indexed _ _ _ p.0 held.inside p.1 p.2)
