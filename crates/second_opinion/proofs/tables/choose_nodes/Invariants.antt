-- `second_opinion::tables::choose_nodes`: no more nodes are chosen than were looked at.
use Rattle.std.proofs.Common.{◌≤◌}
use Rattle.second_opinion.proofs.tables.choose_nodes.Given as goal

abbrev pub invariant-loop-t : goal.invariant-loop-t
invariant-loop-t l = l.chosen ≤ l.t
