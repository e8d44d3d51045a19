-- `lesser_of_two`: the second column wins only by a smaller length.
use mathlib.Core.Path.{◌≡◌}
use Prim.Native.Nat.{◌+◌}
use native.Mathlib.Omega.{arith}
use Rattle.definitions.specs.HeldModel.{lent_entry}
use Rattle.engine.specs.Heap.RowBest.{best_first, best_keep, best_lower}
use Rattle.engine.proofs.rows.Block.lesser_of_two.Goals as goal

pub returns-then-self-row : goal.returns-then-self-row
unfolding lent_entry
returns-then-self-row c =
    let a = c.args in
    let e : a.first + 2 ≡ a.first + 1 + 1 = omega arith in
    rw e (best_lower _ _ _ _ (best_first (lent_entry a.self.now.rows.now a.self.now.col0 a.row) a.first) c.if-self-row.true)

pub returns : goal.returns
unfolding lent_entry
returns c =
    let a = c.args in
    let e : a.first + 2 ≡ a.first + 1 + 1 = omega arith in
    rw e (best_keep _ _ _ _ (best_first (lent_entry a.self.now.rows.now a.self.now.col0 a.row) a.first) (omega (arith, c.if-self-row.false)))
