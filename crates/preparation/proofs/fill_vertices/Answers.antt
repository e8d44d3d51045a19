-- `fill_vertices`: after i turns the first i vertices are stored.
use Rattle.std.proofs.Common.{◌≡◌, get_or, arith, rules}
use Rattle.definitions.specs.Limits.{vertex_places}
use Rattle.basics.specs.Buffers.{filled_none, filled_more}
use Rattle.preparation.specs.Prepared.{vertices_of}
use Rattle.preparation.proofs.TableLaws.{filled_all}
use Rattle.preparation.proofs.fill_vertices.Goals as goal

pub loop-i-init : goal.loop-i-init
loop-i-init c = filled_none _ _

pub loop-i-preserved : goal.loop-i-preserved
loop-i-preserved c =
    let l = c.loop-i in
    let vertex : c.unwrap_or.result ≡ get_or c.args.vertices.now l.i 0 = search rules in
    rw (l.invariant, vertex) (filled_more _ l.i _ (omega arith))

pub returns : goal.returns
unfolding vertices_of
returns c = let l = c.loop-i in rw l.invariant (filled_all _ vertex_places l.i _ (omega arith) (omega arith))
