-- `judge_rows`: the rows are judged as those that the loop has not passed.
use mathlib.Core.Path.{◌≡◌}
use lib.ListN.{drop}
use Rattle.definitions.specs.Judgement.{judge_rows}
use Rattle.monge.specs.Matrix.{rows_in}
use Rattle.judgements.proofs.judge_rows.Given as goal

abbrev pub invariant-loop-i : goal.invariant-loop-i
invariant-loop-i l = judge_rows 0 (rows_in l.m l.lengths) ≡ judge_rows l.i (drop l.i (rows_in l.m l.lengths))
