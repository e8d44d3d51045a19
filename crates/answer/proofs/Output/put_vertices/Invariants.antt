-- `answer::Output::put_vertices` meets its contract. The loop's invariant: the lines of the vertices before v stand in the output.
use Rattle.std.proofs.Common.{◌-◌}
use Rattle.answer.specs.Lines.{vertex_lines}
use Rattle.answer.specs.Output.{Puts}
use Rattle.answer.proofs.Output.put_vertices.Given as goal

abbrev pub invariant-loop-v : goal.invariant-loop-v
invariant-loop-v l = Puts l.initial.self (vertex_lines l.labels 1 (l.v - 1)) l.self
