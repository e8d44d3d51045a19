-- `find_from` leaves the first half or looks up the second; the number of columns falls.
use Rattle.index.proofs.Row.+find_from.Given as goal

abbrev pub decreases-find_from : goal.decreases-find_from
decreases-find_from l = l.stretch.count
