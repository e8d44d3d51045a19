-- `read_sized`: the two lent parts hold what the definition reads.
use Rattle.text.specs.ReadSteps.{vertices_stop}
use Rattle.text.specs.Returns.{stopped}
use Rattle.text.specs.PieceReading.{rows_place, sized_read}
use Rattle.text.proofs.read_sized.Goals as goal

pub returns-in_err-read_vertices : goal.returns-in_err-read_vertices
returns-in_err-read_vertices c = stopped _ _ _ _ c.from_residual.ensures.1 (vertices_stop _ _ _ _ _ c.in_err-read_vertices.ensures)

pub read_table-requires : goal.read_table-requires
read_table-requires c = (rows_place _ _ _ _ _ c.in_ok-read_vertices.ensures, c.requires.1, c.requires.2, c.requires.3)

pub returns : goal.returns
returns c = sized_read _ _ _ _ _ c.in_ok-read_vertices.ensures c.read_vertices.auto.out _ c.requires.1 c.requires.2 _ c.read_table.ensures
