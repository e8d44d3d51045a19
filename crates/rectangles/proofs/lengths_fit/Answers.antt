-- `lengths_fit`: a table may hold the rows passed.
use mathlib.Core.Path.{◌≡◌, sym, ◌∙◌}
use native.Mathlib.Omega.{arith}
use borrow.Author.Rules.{rules}
use Rattle.definitions.specs.Lists.{all}
use Rattle.basics.specs.ListLaws.{all_next, all_fails}
use Rattle.rectangles.specs.RectangleJudgement.{row_fits, lengths_fit}
use Rattle.rectangles.proofs.lengths_fit.Goals as goal

pub loop-i-init : goal.loop-i-init
unfolding all
loop-i-init c = search rules

pub returns-then-not-row_fits : goal.returns-then-not-row_fits
unfolding lengths_fit
returns-then-not-row_fits c = let a = c.args in sym (all_fails (row_fits a.lengths.now a.cols) a.rows c.loop-i.i (omega arith) (sym c.row_fits.ensures ∙ c.if-not-row_fits.true))

pub loop-i-preserved : goal.loop-i-preserved
loop-i-preserved c = let a = c.args in all_next (row_fits a.lengths.now a.cols) c.loop-i.i c.loop-i.invariant (sym c.row_fits.ensures ∙ c.if-not-row_fits.false)

pub returns : goal.returns
unfolding lengths_fit
returns c = let e : c.loop-i.i ≡ c.args.rows = omega arith in rw (← e, c.loop-i.invariant)
