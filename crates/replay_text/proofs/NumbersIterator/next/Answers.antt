-- `Numbers::next`: a digit goes on with the number, another byte ends it or is passed over.
use Rattle.std.proofs.Common.{rules}
use Rattle.replay_text.proofs.Behind.{behind_digit, behind_other}
use Rattle.replay_text.proofs.NumbersIterator.next.Goals as goal

pub loop-byte-preserved : goal.loop-byte-preserved
loop-byte-preserved c = (search rules, search (rules, behind_digit, behind_other))
