-- `Numbers::fill_rows`: the rows that were filled, what the others hold, and the numbers and the text that are left.
use Rattle.std.proofs.Common.{◌≡◌, ◌*◌, drop}
use Rattle.replay_text.specs.TextNumbers.{HoldsNumbers, KeepsOthers, behind_numbers, numbers_left, text_left}
use Rattle.replay_text.proofs.Numbers.fill_rows.Given as goal

abbrev pub invariant-loop-row : goal.invariant-loop-row
invariant-loop-row g l = record {
  others : numbers_left l.self ≡ drop (l.row-index * l.cols) (numbers_left l.initial.self);
  text : text_left l.self ≡ behind_numbers (l.row-index * l.cols) (text_left l.initial.self);
  filled : HoldsNumbers l.row-items l.row-index l.cols (numbers_left l.initial.self);
  kept : KeepsOthers l.initial.row-items l.row-items l.row-index l.cols;
}
