-- `build_stretch` calls itself on both halves, then fills the place of the whole; the number of columns falls.
use Rattle.index.proofs.+build_stretch.Given as goal

abbrev pub decreases-build_stretch : goal.decreases-build_stretch
decreases-build_stretch l = l.stretch.count
