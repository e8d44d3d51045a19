-- `KeptArcs::count_arcs` follows the arcs back from the target until the source is reached.
use native.Mathlib.Omega.{arith}
use Rattle.routes.specs.Following.{count_begun, count_in, count_passed, count_few, count_next, count_done}
use Rattle.routes.proofs.KeptArcs.count_arcs.Goals as goal

-- ---- needs
pub loop-v-init : goal.loop-v-init
loop-v-init c = count_begun c.requires

pub overflow_cast-v : goal.overflow_cast-v
overflow_cast-v c = omega (arith, count_in c.requires c.loop-v.invariant)

pub overflow_sub-v : goal.overflow_sub-v
overflow_sub-v c = (count_in c.requires c.loop-v.invariant).0

pub offset_bounds-self-v : goal.offset_bounds-self-v
offset_bounds-self-v c = omega (arith, count_in c.requires c.loop-v.invariant)

pub bounds-self-v : goal.bounds-self-v
bounds-self-v c = (count_in c.requires c.loop-v.invariant).2

pub tail-v-requires : goal.tail-v-requires
tail-v-requires c = count_passed c.requires c.loop-v.invariant c.loop-v-test.true

pub overflow_add-count : goal.overflow_add-count
overflow_add-count c = omega (arith, count_few c.requires c.loop-v.invariant c.loop-v-test.true)

pub loop-v-smaller : goal.loop-v-smaller
loop-v-smaller c = omega (arith, count_few c.requires c.loop-v.invariant c.loop-v-test.true)

pub loop-v-preserved : goal.loop-v-preserved
loop-v-preserved c = count_next c.requires c.loop-v.invariant c.loop-v-test.true _ c.tail-v.ensures

pub returns : goal.returns
returns c = count_done c.requires c.loop-v.invariant c.loop-v-test.false
