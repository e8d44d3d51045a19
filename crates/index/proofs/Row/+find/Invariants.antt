-- `find` calls itself on the half that is asked for; the number of columns falls. Where both halves are, the second gives a best for the first.
use Rattle.index.proofs.Row.+find.Given as goal

abbrev pub decreases-find : goal.decreases-find
decreases-find l = l.stretch.count
