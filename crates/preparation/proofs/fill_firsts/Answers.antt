-- `fill_firsts`: after d turns the first d numbers are the definition's, and b counts the blocks of the first d pieces.
use mathlib.Core.Path.{refl}
use native.Mathlib.Omega.{arith}
use borrow.Author.Rules.{rules}
use Rattle.definitions.specs.Limits.{max_pieces}
use Rattle.basics.specs.Buffers.{filled_none, filled_more}
use Rattle.preparation.specs.Prepared.{blocks_up_to, firsts_of}
use Rattle.preparation.specs.Placements.{blocks_next}
use Rattle.preparation.proofs.TableLaws.{filled_all}
use Rattle.preparation.proofs.fill_firsts.Goals as goal

pub loop-d-init : goal.loop-d-init
unfolding blocks_up_to
loop-d-init c = record { blocks = refl; few = search rules; filled = filled_none _ _ }

pub loop-d-preserved : goal.loop-d-preserved
loop-d-preserved c =
    let l = c.loop-d in
    let size = c.size_at.ensures in
    record {
      blocks = blocks_next _ _ _ _ _ _ size.0 c.block_count-b.ensures l.invariant.blocks;
      few = omega (arith, size.1, c.block_count-b.ensures);
      filled = rw (l.invariant.filled, l.invariant.blocks) (filled_more _ l.d _ (omega arith));
    }

pub returns : goal.returns
unfolding firsts_of
returns c =
    let l = c.loop-d in
    rw l.invariant.filled (filled_all _ max_pieces l.d _ (omega arith) (omega arith))
