-- `find_until` looks up the first half or leaves the second; the number of columns falls.
use Rattle.index.proofs.Row.+find_until.Given as goal

abbrev pub decreases-find_until : goal.decreases-find_until
decreases-find_until l = l.stretch.count
