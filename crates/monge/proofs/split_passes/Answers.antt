-- `split_passes`: the two blocks of the split, in the table.
use mathlib.Core.Path.{◌∙◌}
use borrow.Author.Rules.{rules}
use Rattle.monge.specs.declared.Block.{Block}
use Rattle.monge.specs.Matrix.{block_monge_in}
use Rattle.monge.proofs.SplitOrder.{both_blocks}
use Rattle.monge.proofs.split_passes.Goals as goal

pub returns : goal.returns
returns c =
    let lengths = c.args.lengths.now in
    c.both_blocks.ensures (λ (b : Block). block_monge_in lengths b.row0 b.col0 b.rows b.cols) (λ b t h. search rules) ∙ rw both_blocks
