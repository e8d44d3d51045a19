-- `BlockHeaps::settle` meets its contract: the links lead from place to place, and the pieces between two places of the vertex do not have it.
use mathlib.Core.Path.{◌≡◌}
use native.Mathlib.Omega.{arith}
use Rattle.engine.specs.Labeller.Vertices.{settle_begun, vertex_in_lem, tables_long, settle_long, settle_done, settle_few, place_in, place_needs, settle_count, settle_less, settle_more}
use Rattle.engine.proofs.blocks.BlockHeaps.settle.Goals as goal

pub overflow_sub-link : goal.overflow_sub-link
overflow_sub-link c = omega (arith, vertex_in_lem c.requires, tables_long c.requires)

pub overflow_add-link : goal.overflow_add-link
overflow_add-link c = omega (arith, vertex_in_lem c.requires, tables_long c.requires)

pub offset_bounds-tables-v : goal.offset_bounds-tables-v
offset_bounds-tables-v c = omega (arith, vertex_in_lem c.requires, tables_long c.requires)

pub bounds-tables-v : goal.bounds-tables-v
bounds-tables-v c = omega (arith, vertex_in_lem c.requires, tables_long c.requires)

pub loop-link-init : goal.loop-link-init
loop-link-init c = settle_begun c.requires

pub overflow_sub-x : goal.overflow_sub-x
overflow_sub-x c = omega arith

pub overflow_mul-i : goal.overflow_mul-i
overflow_mul-i c = omega (arith, place_in c.requires c.loop-link.invariant (omega arith))

pub overflow_sub-i : goal.overflow_sub-i
overflow_sub-i c = omega (arith, place_in c.requires c.loop-link.invariant (omega arith))

pub offset_bounds-row_labels-x : goal.offset_bounds-row_labels-x
offset_bounds-row_labels-x c = omega (arith, place_in c.requires c.loop-link.invariant (omega arith))

pub bounds-row_labels-x : goal.bounds-row_labels-x
bounds-row_labels-x c = omega (arith, place_in c.requires c.loop-link.invariant (omega arith))

pub overflow_add-first : goal.overflow_add-first
overflow_add-first c = omega (arith, place_in c.requires c.loop-link.invariant (omega arith))

pub offset_bounds-tables-d : goal.offset_bounds-tables-d
offset_bounds-tables-d c = omega (arith, place_in c.requires c.loop-link.invariant (omega arith))

pub bounds-tables-d : goal.bounds-tables-d
bounds-tables-d c = omega (arith, place_in c.requires c.loop-link.invariant (omega arith), tables_long c.requires)

pub overflow_add-size : goal.overflow_add-size
overflow_add-size c = omega (arith, place_in c.requires c.loop-link.invariant (omega arith))

pub offset_bounds-tables-d-in-loop-link : goal.offset_bounds-tables-d-in-loop-link
offset_bounds-tables-d-in-loop-link c = omega (arith, place_in c.requires c.loop-link.invariant (omega arith))

pub bounds-tables-d-in-loop-link : goal.bounds-tables-d-in-loop-link
bounds-tables-d-in-loop-link c = omega (arith, place_in c.requires c.loop-link.invariant (omega arith), tables_long c.requires)

pub activate_place-inserted-requires : goal.activate_place-inserted-requires
activate_place-inserted-requires c =
    let p = c.requires in
    place_needs p c.loop-link.invariant (omega arith)

pub overflow_add-inserted : goal.overflow_add-inserted
overflow_add-inserted c = let p = c.requires in
    omega (arith, c.activate_place-inserted.ensures.few, place_in c.requires c.loop-link.invariant (omega arith), settle_count p c.loop-link.invariant (omega arith))

pub overflow_add-link-in-loop-link : goal.overflow_add-link-in-loop-link
overflow_add-link-in-loop-link c = omega (arith, place_in c.requires c.loop-link.invariant (omega arith), settle_long c.requires c.loop-link.invariant)

pub offset_bounds-tables-x : goal.offset_bounds-tables-x
offset_bounds-tables-x c = omega (arith, place_in c.requires c.loop-link.invariant (omega arith), settle_long c.requires c.loop-link.invariant)

pub bounds-tables-x : goal.bounds-tables-x
bounds-tables-x c = omega (arith, place_in c.requires c.loop-link.invariant (omega arith), settle_long c.requires c.loop-link.invariant, tables_long c.requires)

pub loop-link-smaller : goal.loop-link-smaller
loop-link-smaller c =
    let p = c.requires in
    settle_less p c.loop-link.invariant (omega arith)

pub loop-link-preserved : goal.loop-link-preserved
loop-link-preserved c =
    let p = c.requires in
    let w = c.activate_place-inserted.ensures in
    settle_more p c.loop-link.invariant (omega arith) _ _ _ w.few w.done

pub returns : goal.returns
returns c =
    let p = c.requires in
    let end : c.loop-link.link ≡ 0 = omega arith in
    record { done = settle_done p c.loop-link.invariant end; few = settle_few p c.loop-link.invariant end }
