-- `is_open_row`: no path at the columns passed; the loop ends at the last, or at the first with a number.
use mathlib.Core.Path.{◌≡◌, refl}
use native.Mathlib.Omega.{arith}
use borrow.Author.Tests.{eq-eqb, ne_eqb}
use lib.Dec.{eqb}
use Rattle.definitions.specs.Limits.{no_path}
use Rattle.definitions.specs.Lists.{all}
use Rattle.basics.specs.ListLaws.{all_next, all_fails}
use Rattle.monge_laws.specs.Neighbours.{is_open_row}
use Rattle.monge.specs.Matrix.{rows_from}
use Rattle.monge.proofs.Rows.is_open_row.Goals as goal

pub loop-k-init : goal.loop-k-init
unfolding all
loop-k-init c = refl

pub returns-then-entry_at : goal.returns-then-entry_at
unfolding is_open_row
returns-then-entry_at c =
    let x = c.args in
    rw (all_fails (λ n. eqb (rows_from x.self.now.lengths.now x.self.now.first x.i n) no_path) _ c.loop-k.k c.loop-k-test.true (rw (← c.entry_at.ensures) (ne_eqb _ _ c.if-entry_at.true)))

pub loop-k-preserved : goal.loop-k-preserved
loop-k-preserved c = all_next _ _ c.loop-k.invariant (rw (← c.entry_at.ensures) (eq-eqb _ _ c.if-entry_at.false))

pub returns : goal.returns
unfolding is_open_row
returns c =
    let e : c.loop-k.k ≡ c.args.self.now.cols = omega arith in
    rw (← e, c.loop-k.invariant)
