-- `move_interval` writes the interval that it reads.
use Rattle.engine.specs.Heap.WordLaws.{told_is}
use Rattle.engine.proofs.heap.move_interval.Goals as goal

pub returns : goal.returns
returns c = rw (told_is _ _ _ c.interval-moved.ensures) at c.put.ensures
