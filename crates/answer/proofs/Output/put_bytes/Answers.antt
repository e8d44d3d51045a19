-- `answer::Output::put_bytes` meets its contract.
use Rattle.std.proofs.Common.{rules, refl}
use Rattle.answer.specs.Output.{bytes_put}
use Rattle.answer.proofs.Output.put_bytes.Goals as goal

pub returns : goal.returns
returns c = bytes_put _ _ _ _ c.requires refl refl (search rules) refl
