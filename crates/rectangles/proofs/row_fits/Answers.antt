-- `row_fits`: a table may hold the lengths passed.
use mathlib.Core.Path.{◌≡◌, sym, ◌∙◌}
use native.Mathlib.Omega.{arith}
use borrow.Author.Rules.{rules}
use Rattle.definitions.specs.Lists.{all}
use Rattle.basics.specs.ListLaws.{all_next, all_fails}
use Rattle.rectangles.specs.RectangleJudgement.{row_fits}
use Rattle.rectangles.proofs.row_fits.Invariants.{fits}
use Rattle.rectangles.proofs.row_fits.Goals as goal

pub loop-k-init : goal.loop-k-init
unfolding all
loop-k-init c = search rules

pub returns-then-not-is_length : goal.returns-then-not-is_length
unfolding row_fits
returns-then-not-is_length c =
    let a = c.args in
    sym (all_fails (fits a.lengths.now a.i) a.cols c.loop-k.k (omega arith) (rw (← c.entry_at.ensures) (sym c.is_length.ensures ∙ c.if-not-is_length.true)))

pub loop-k-preserved : goal.loop-k-preserved
loop-k-preserved c =
    let a = c.args in
    all_next (fits a.lengths.now a.i) c.loop-k.k c.loop-k.invariant (rw (← c.entry_at.ensures) (sym c.is_length.ensures ∙ c.if-not-is_length.false))

pub returns : goal.returns
unfolding row_fits
returns c = let e : c.loop-k.k ≡ c.args.cols = omega arith in rw (← e, c.loop-k.invariant)
