-- `Tables::block`: the rows of the block lie within the arrays.
use Rattle.engine.specs.Labeller.LentHeaps.{block_left, block_indexed}
use Rattle.engine.proofs.blocks.Tables.block.Goals as goal

pub invariant_of-result : goal.invariant_of-result
invariant_of-result c = record { indexed = block_indexed c.requires }

pub returns : goal.returns
returns c = block_left c.requires
