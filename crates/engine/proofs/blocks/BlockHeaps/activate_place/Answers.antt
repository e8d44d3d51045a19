-- `BlockHeaps::activate_place` meets its contract: at each level the vertex is activated in one block, and the stretch is halved.
use native.Mathlib.Omega.{arith}
use Rattle.engine.specs.Labeller.Activations.{place_small, place_begun, place_done, place_half, half_needs, half_few, half_done}
use Rattle.engine.proofs.blocks.BlockHeaps.activate_place.Goals as goal

pub loop-k-init : goal.loop-k-init
loop-k-init c = place_begun c.requires

pub half_of-half-requires : goal.half_of-half-requires
half_of-half-requires c = let p = place_small c.requires in (omega arith, omega arith, omega arith)

pub overflow_add-b : goal.overflow_add-b
overflow_add-b c = omega (arith, place_half c.requires c.loop-k.invariant (omega arith) _ c.half_of-half.ensures, place_small c.requires)

pub overflow_sub-i : goal.overflow_sub-i
overflow_sub-i c = omega (arith, place_half c.requires c.loop-k.invariant (omega arith) _ c.half_of-half.ensures)

pub activate_block-inserted-requires : goal.activate_block-inserted-requires
activate_block-inserted-requires c = half_needs c.requires c.loop-k.invariant (omega arith) _ c.half_of-half.ensures

pub overflow_add-inserted : goal.overflow_add-inserted
overflow_add-inserted c = omega (arith, place_small c.requires, half_few c.requires c.loop-k.invariant (omega arith) _ c.half_of-half.ensures _ _ _ c.activate_block-inserted.ensures)

pub loop-k-smaller : goal.loop-k-smaller
loop-k-smaller c = (place_half c.requires c.loop-k.invariant (omega arith) _ c.half_of-half.ensures).shorter

pub loop-k-preserved : goal.loop-k-preserved
loop-k-preserved c = half_done c.requires c.loop-k.invariant (omega arith) _ c.half_of-half.ensures _ _ _ c.activate_block-inserted.ensures

pub returns : goal.returns
returns c = record { done = place_done c.requires c.loop-k.invariant (omega arith); few = omega (arith, place_small c.requires) }
