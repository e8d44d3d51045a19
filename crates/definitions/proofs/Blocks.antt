-- The law of the file `Blocks` of specs/: what the check of a block comes to. Its proof goes over the file `Laws/MongeLaws`.
--   passes_exactly            the check is the inequality of the file `Monge` of specs/
use Rattle.std.specs.Prelude.{◌≡◌, true, ◌↔◌, length}
use Rattle.definitions.specs.Monge.{Monge}
use Rattle.definitions.specs.Blocks.{Block, passes}
use Rattle.definitions.proofs.Laws.MongeLaws.{is_monge_is, is_monge_from}

-- It passes exactly if the inequality holds of every two of its rows and every two of its columns.
pub passes_exactly : (b : Block) → passes b ≡ true ↔ Monge b.lengths (length b.rows) (length b.cols)
unfolding passes
passes_exactly b = (is_monge_is b.lengths (length b.rows) (length b.cols), is_monge_from b.lengths (length b.rows) (length b.cols))
