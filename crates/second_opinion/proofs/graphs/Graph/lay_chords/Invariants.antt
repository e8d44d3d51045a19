-- `second_opinion::graphs::Graph::lay_chords`: the low end has moved no further than chords were laid.
use Rattle.std.proofs.Common.{◌≤◌}
use Rattle.second_opinion.proofs.graphs.Graph.lay_chords.Given as goal

abbrev pub invariant-loop-laid : goal.invariant-loop-laid
invariant-loop-laid l = l.low ≤ l.laid
