-- `find_start` leaves the second half or looks up the first; the number of columns falls.
use Rattle.index.proofs.Row.+find_start.Given as goal

abbrev pub decreases-find_start : goal.decreases-find_start
decreases-find_start l = l.stretch.count
