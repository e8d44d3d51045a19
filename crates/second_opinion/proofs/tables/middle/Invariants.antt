-- `second_opinion::tables::middle` ends: `end - first` falls at each turn.
use Rattle.std.proofs.Common.{◌-◌, ◌≤◌}
use Rattle.second_opinion.proofs.tables.middle.Given as goal

abbrev pub invariant-loop-end : goal.invariant-loop-end
invariant-loop-end l = (l.first ≤ l.end) × (l.end ≤ l.m)

abbrev pub decreases-loop-end : goal.decreases-loop-end
decreases-loop-end l = l.end - l.first
