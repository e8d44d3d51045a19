-- `fill_rows` fills a row a turn: after r turns the first r rows are the definition's.
use Rattle.std.proofs.Common.{arith}
use Rattle.definitions.specs.Limits.{vertex_places}
use Rattle.basics.specs.Buffers.{filled_none, filled_more}
use Rattle.preparation.specs.Prepared.{matrix_of}
use Rattle.preparation.proofs.TableLaws.{filled_all}
use Rattle.preparation.proofs.fill_rows.Goals as goal

pub loop-r-init : goal.loop-r-init
loop-r-init c = filled_none _ _

pub loop-r-preserved : goal.loop-r-preserved
loop-r-preserved c = let l = c.loop-r in rw (c.fill_row.ensures, l.invariant) (filled_more _ l.r _ (omega arith))

pub returns : goal.returns
unfolding matrix_of
returns c = let l = c.loop-r in rw l.invariant (filled_all _ vertex_places l.r _ (omega arith) (omega arith))
