-- `second_opinion::plans::choose_parted`: what is filled from both ends is what was drawn.
use Rattle.std.proofs.Common.{◌≡◌, ◌≤◌, ◌+◌, length}
use Rattle.second_opinion.proofs.plans.choose_parted.Given as goal

abbrev pub invariant-loop-i : goal.invariant-loop-i
invariant-loop-i l = (l.low ≤ l.i) × (l.low + length l.initial.vertices ≡ l.i + l.end)
