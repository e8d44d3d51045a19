-- `judge_row`: the lengths, then the diagonal.
use lib.ListN.{get_or-eq_default}
use Rattle.std.proofs.lemmas.Grind.{common_steps}
use native.Mathlib.Omega.{arith}
use Rattle.definitions.specs.Judgement.{judge_row}
use Rattle.judgements.proofs.judge_row.Goals as goal

pub returns : goal.returns
unfolding judge_row
returns c = grind (arith, common_steps, get_or-eq_default)
