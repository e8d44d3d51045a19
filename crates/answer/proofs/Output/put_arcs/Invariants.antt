-- `answer::Output::put_arcs` meets its contract. The loop's invariant: the lines of the arcs before arc i stand in the output.
use Rattle.answer.specs.Lines.{arc_lines}
use Rattle.answer.specs.Output.{Puts}
use Rattle.answer.proofs.Output.put_arcs.Given as goal

abbrev pub invariant-loop-i : goal.invariant-loop-i
invariant-loop-i l = Puts l.initial.self (arc_lines l.arcs 0 l.i) l.self
