-- `passes_quick`: neighbouring rows pass the quick check, each two of them exchanged.
use native.Mathlib.Omega.{arith}
use Rattle.monge.specs.Matrix.{quick_block}
use Rattle.monge.proofs.Block.passes_quick.Goals as goal

pub quick_check-requires : goal.quick_check-requires
quick_check-requires c = let p = c.requires in (p.0, λ i l. (omega (arith, p), omega (arith, p)))

pub returns : goal.returns
unfolding quick_block
returns c = c.quick_check.ensures
