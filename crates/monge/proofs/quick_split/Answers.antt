-- `quick_split`: the two blocks of the split, in the table.
use mathlib.Core.Path.{◌≡◌, sym, ◌∙◌}
use mathlib.Core.Bool.{true, ◌&&◌}
use native.Mathlib.Omega.{arith}
use borrow.Author.Rules.{rules}
use Rattle.logic.specs.Tests.{and_left, and_right}
use Rattle.monge.specs.declared.Block.{Block}
use Rattle.monge.specs.SplitBlocks.{forth, back}
use Rattle.monge.specs.Matrix.{quick_block}
use Rattle.monge.specs.Rectangles.{quick_passes}
use Rattle.monge.proofs.SplitOrder.{both_blocks}
use Rattle.monge.proofs.quick_split.Goals as goal

pub returns : goal.returns
returns c t =
    let p = c.requires in
    let lengths = c.args.lengths.now in
    let q = λ (b : Block). quick_block lengths b.row0 b.col0 b.rows b.cols in
    let both : (q (forth c.args.split) && q (back c.args.split)) ≡ true = sym (c.both_blocks.ensures q (λ b t h. search rules)) ∙ t in
    let first = quick_passes lengths _ _ _ _ p.0 (omega (arith, p)) (omega (arith, p)) (and_left _ _ both) in
    let second = quick_passes lengths _ _ _ _ p.0 (omega (arith, p)) (omega (arith, p)) (and_right (q (forth c.args.split)) _ both) in
    rw (both_blocks, first, second)
