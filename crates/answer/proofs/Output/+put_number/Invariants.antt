-- `answer::Output::put_number` meets its contract: it calls itself with a tenth of its number.
use Rattle.answer.proofs.Output.+put_number.Given as goal

abbrev pub decreases-put_number : goal.decreases-put_number
decreases-put_number l = l.x
