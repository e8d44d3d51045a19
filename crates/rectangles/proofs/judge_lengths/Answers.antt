-- `judge_lengths`: the sides, then the lengths.
use mathlib.Core.Path.{sym}
use borrow.Author.Rules.{rules}
use Rattle.judgements.proofs.OneAfterAnother.{first_is, next_is, last_is}
use Rattle.rectangles.specs.RectangleJudgement.{row_fits, lengths_fit, judge_lengths, sides_in}
use Rattle.rectangles.proofs.judge_lengths.Goals as goal

pub returns-in_err-judge_sides : goal.returns-in_err-judge_sides
unfolding judge_lengths
returns-in_err-judge_sides c = search (rules, first_is)

pub lengths_fit-requires : goal.lengths_fit-requires
lengths_fit-requires c = let s = sides_in _ _ (sym c.in_ok-judge_sides.ensures) in (s.rows_few, s.cols_few)

pub returns : goal.returns
unfolding judge_lengths lengths_fit row_fits
returns c = search (rules, next_is, last_is)
