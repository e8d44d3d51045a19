-- `KeptArcs::tail` reads the vertex at the place that the word has.
use native.Mathlib.Omega.{arith}
use Rattle.routes.proofs.KeptArcs.tail.Goals as goal

pub offset_bounds-self-word : goal.offset_bounds-self-word
offset_bounds-self-word c = omega (arith, c.requires.0.small)

pub bounds-self-word : goal.bounds-self-word
bounds-self-word c = omega (arith, c.requires.0.small, c.requires.1)
