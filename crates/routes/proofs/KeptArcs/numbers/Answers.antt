-- `KeptArcs::numbers` says the four numbers of the arc that a word stands for.
use Rattle.std.proofs.Common.{refl, add-one}
use Rattle.definitions.specs.Entries.{arc_numbers}
use Rattle.engine.specs.Labeller.ArcWords.{lent_arc}
use Rattle.routes.proofs.KeptArcs.numbers.Goals as goal

pub returns : goal.returns
unfolding arc_numbers lent_arc
returns c = rw add-one refl
