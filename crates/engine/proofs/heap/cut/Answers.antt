-- `cut` leaves what the interval has before and after the column.
use mathlib.Core.Path.{◌∙◌}
use native.Mathlib.Omega.{arith}
use Rattle.engine.specs.Heap.Clear.{cut_needs, replace_room, left_room, right_room, replace_done, cut_done}
use Rattle.engine.proofs.heap.cut.Goals as goal

pub interval-whole-requires : goal.interval-whole-requires
interval-whole-requires c = let p = c.requires.fits in omega (arith, p.inside, p.laid.words)

pub overflow_cast-first : goal.overflow_cast-first
overflow_cast-first c = omega (arith, c.requires.inside, c.args.block.now.indexed.inside, c.requires.fits.low, c.requires.fits.high, c.interval-whole.ensures.first_is)

pub overflow_cast-last : goal.overflow_cast-last
overflow_cast-last c = omega (arith, c.requires.inside, c.args.block.now.indexed.inside, c.interval-whole.ensures.last_is)

pub overflow_cast-column : goal.overflow_cast-column
overflow_cast-column c = omega (arith, c.requires.inside, c.args.block.now.indexed.inside, c.requires.fits.high)

pub overflow_add-next : goal.overflow_add-next
overflow_add-next c = omega (arith, c.requires.inside, c.args.block.now.indexed.inside, c.requires.fits.high)

pub overflow_add-end : goal.overflow_add-end
overflow_add-end c = omega (arith, c.requires.inside, c.args.block.now.indexed.inside, c.interval-whole.ensures.last_is)

pub overflow_add-number : goal.overflow_add-number
overflow_add-number c = omega (arith, c.len-before.ensures.1, c.len.ensures.1)

pub overflow_add-place : goal.overflow_add-place
overflow_add-place c = let p = c.requires.fits in omega (arith, p.inside, p.small)

pub make_room-requires : goal.make_room-requires
make_room-requires c = replace_room _ _ _ _ _ _ _ _ _ _ _ _ (cut_needs c.requires.fits c.interval-whole.ensures) c.len-before.ensures.0 c.len.ensures.0 (omega arith)

pub put_rest-requires : goal.put_rest-requires
put_rest-requires c =
    let can = cut_needs c.requires.fits c.interval-whole.ensures in
    record {
      fits = (left_room _ _ _ _ _ _ _ _ _ _ _ _ can c.len-before.ensures.0 c.len.ensures.0 (omega arith) _ c.make_room.ensures, can.left_fits);
      inside = omega (arith, c.requires.fits.high, c.requires.inside);
    }

pub overflow_add-place-2 : goal.overflow_add-place-2
overflow_add-place-2 c = let p = c.requires.fits in omega (arith, p.inside, p.small, c.len-before.ensures.1)

pub put_rest-requires-2 : goal.put_rest-requires-2
put_rest-requires-2 c =
    let can = cut_needs c.requires.fits c.interval-whole.ensures in
    let z = right_room _ _ _ _ _ _ _ _ _ _ _ _ can c.len-before.ensures.0 c.len.ensures.0 (omega arith) _ c.make_room.ensures in
    record { fits = (omega (arith, z, c.put_rest.ensures.outside.long), can.right_fits); inside = omega (arith, c.requires.inside, c.interval-whole.ensures.last_is) }

pub shape_of-heap : goal.shape_of-heap
shape_of-heap c = c.put_rest-2.ensures.outside.long ∙ c.put_rest.ensures.outside.long ∙ c.make_room.ensures.long

pub returns : goal.returns
returns c =
    let can = cut_needs c.requires.fits c.interval-whole.ensures in
    cut_done c.requires.fits c.interval-whole.ensures _ _ _
    (replace_done _ _ _ _ _ _ _ _ _ _ _ _ can c.len-before.ensures.0 c.len.ensures.0 (omega arith) _ c.make_room.ensures
    _ _ _ (omega arith) c.put_rest.ensures c.put_rest-2.ensures)
