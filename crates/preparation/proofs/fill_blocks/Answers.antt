-- `fill_blocks` has filled the first b blocks.
use mathlib.Core.Path.{◌≡◌, refl}
use native.Mathlib.Numerals.{add-one}
use native.Mathlib.Omega.{arith}
use Rattle.preparation.specs.Prepared.{max_blocks}
use Rattle.preparation.specs.BlockIndex.{filled_up_to}
use Rattle.preparation.proofs.fill_blocks.Goals as goal

pub loop-b-init : goal.loop-b-init
unfolding filled_up_to
loop-b-init c = refl

pub loop-b-preserved : goal.loop-b-preserved
unfolding filled_up_to
loop-b-preserved c =
    let l = c.loop-b in
    rw (add-one l.b, ← l.invariant) c.fill_block.ensures

pub returns : goal.returns
returns c = let l = c.loop-b in let e : l.b ≡ max_blocks = omega arith in rw (← e) l.invariant
