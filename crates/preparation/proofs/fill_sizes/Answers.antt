-- `fill_sizes`: after d turns the sizes of the first d pieces are stored.
use Rattle.std.proofs.Common.{arith}
use Rattle.definitions.specs.Limits.{max_pieces}
use Rattle.basics.specs.Buffers.{filled_none, filled_more}
use Rattle.preparation.specs.Prepared.{sizes_of}
use Rattle.preparation.proofs.TableLaws.{filled_all}
use Rattle.preparation.proofs.fill_sizes.Goals as goal

pub loop-d-init : goal.loop-d-init
loop-d-init c = filled_none _ _

pub loop-d-preserved : goal.loop-d-preserved
loop-d-preserved c = let l = c.loop-d in rw (l.invariant, c.size_at.ensures.0) (filled_more _ l.d _ (omega arith))

pub returns : goal.returns
unfolding sizes_of
returns c = let l = c.loop-d in rw l.invariant (filled_all _ max_pieces l.d _ (omega arith) (omega arith))
