-- `answer::Output::put_byte` meets its contract.
use Rattle.std.proofs.Common.{refl}
use Rattle.answer.specs.Output.{byte_put}
use Rattle.answer.proofs.Output.put_byte.Goals as goal

pub returns : goal.returns
returns c = byte_put _ _ _ c.requires refl refl refl
