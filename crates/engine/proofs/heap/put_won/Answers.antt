-- `put_won` clears the columns, and their place gets the row's intervals.
use mathlib.Core.Path.{refl, ◌∙◌}
use native.Mathlib.Omega.{arith}
use Rattle.engine.specs.Heap.Clear.{left_end, right_end, cleared_from, replace_room, left_room, right_room, replace_done}
use Rattle.engine.specs.Heap.HeapCalls.{won_can}
use Rattle.engine.proofs.heap.put_won.Goals as goal

pub own_runs-runs-requires : goal.own_runs-runs-requires
own_runs-runs-requires c = let p = c.requires in record { reads = (omega (arith, p.room.words), p.reads.row_in_lem, p.stretch.ordered, p.inside, p.at_first); full = p.full }

pub rests_of-requires : goal.rests_of-requires
rests_of-requires c = omega (arith, c.requires.room.words, c.requires.stretch.inside)

pub overflow_add-place : goal.overflow_add-place
overflow_add-place c = let p = c.requires in omega (arith, p.stretch.places, p.places, c.len.ensures.1)

pub overflow_sub-number : goal.overflow_sub-number
overflow_sub-number c = omega arith

pub overflow_add-number : goal.overflow_add-number
overflow_add-number c = let can = won_can c.requires _ _ _ c.rests_of.ensures.0 c.rests_of.ensures.1 (c.own_runs-runs.ensures c.args.block.now.labels.now) in
    let p = c.requires in omega (arith, p.stretch.places, p.places, c.len.ensures.1, can.small)

pub overflow_add-number-2 : goal.overflow_add-number-2
overflow_add-number-2 c = let can = won_can c.requires _ _ _ c.rests_of.ensures.0 c.rests_of.ensures.1 (c.own_runs-runs.ensures c.args.block.now.labels.now) in
    let p = c.requires in omega (arith, c.len.ensures.0, c.len-2.ensures.0, can.small)

pub make_room-requires : goal.make_room-requires
make_room-requires c = let can = won_can c.requires _ _ _ c.rests_of.ensures.0 c.rests_of.ensures.1 (c.own_runs-runs.ensures c.args.block.now.labels.now) in
    replace_room _ _ _ _ _ _ _ _ _ _ _ _ can c.len.ensures.0 c.len-2.ensures.0 (omega arith)

pub put_rest-requires : goal.put_rest-requires
put_rest-requires c = let can = won_can c.requires _ _ _ c.rests_of.ensures.0 c.rests_of.ensures.1 (c.own_runs-runs.ensures c.args.block.now.labels.now) in
    let p = c.requires in record {
      fits = (
        left_room _ _ _ _ _ _ _ _ _ _ _ _ can c.len.ensures.0 c.len-2.ensures.0 (omega arith) _ c.make_room.ensures,
        can.left_fits,
      );
      inside = rw c.rests_of.ensures.0 (left_end _ _ _ _ _ (omega (arith, p.stretch.ordered, p.inside)));
    }

pub overflow_add-place-2 : goal.overflow_add-place-2
overflow_add-place-2 c = let can = won_can c.requires _ _ _ c.rests_of.ensures.0 c.rests_of.ensures.1 (c.own_runs-runs.ensures c.args.block.now.labels.now) in
    omega (arith, c.len.ensures.0, can.small)

pub put_rest-requires-2 : goal.put_rest-requires-2
put_rest-requires-2 c = let can = won_can c.requires _ _ _ c.rests_of.ensures.0 c.rests_of.ensures.1 (c.own_runs-runs.ensures c.args.block.now.labels.now) in
    let p = c.requires in
    let z = right_room _ _ _ _ _ _ _ _ _ _ _ _ can c.len.ensures.0 c.len-2.ensures.0 (omega arith) _ c.make_room.ensures in
    record { fits = (omega (arith, z, c.put_rest.ensures.outside.long), can.right_fits); inside = rw c.rests_of.ensures.1 (right_end _ _ _ _ _ p.stretch.inside p.lasts) }

pub put_runs-sum-requires : goal.put_runs-sum-requires
put_runs-sum-requires c = let can = won_can c.requires _ _ _ c.rests_of.ensures.0 c.rests_of.ensures.1 (c.own_runs-runs.ensures c.args.block.now.labels.now) in
    let p = c.requires in
    let long = c.put_rest-2.ensures.outside.long ∙ c.put_rest.ensures.outside.long ∙ c.make_room.ensures.long in
    let x = c.len.ensures.0 in record {
      fits = record {
        room = omega (arith, long, can.room, x);
        places = omega (arith, can.small, x);
        reads = p.reads;
        some = p.stretch.ordered;
        at_first = p.at_first;
        at_last = p.at_last;
        number_is = c.own_runs-runs.ensures c.args.block.now.labels.now;
      };
      inside = p.inside;
    }

pub overflow_cast-result : goal.overflow_cast-result
overflow_cast-result c = let can = won_can c.requires _ _ _ c.rests_of.ensures.0 c.rests_of.ensures.1 (c.own_runs-runs.ensures c.args.block.now.labels.now) in
    omega (arith, c.len.ensures.0, c.len-2.ensures.0, can.small)

pub overflow_sub-result : goal.overflow_sub-result
overflow_sub-result c = c.requires.stretch.places

pub overflow_cast-result-2 : goal.overflow_cast-result-2
overflow_cast-result-2 c = omega (arith, c.requires.places)

pub shape_of-heap : goal.shape_of-heap
shape_of-heap c = c.put_runs-sum.ensures.outside.long ∙ c.put_rest-2.ensures.outside.long ∙ c.put_rest.ensures.outside.long ∙ c.make_room.ensures.long

pub returns : goal.returns
returns c = let can = won_can c.requires _ _ _ c.rests_of.ensures.0 c.rests_of.ensures.1 (c.own_runs-runs.ensures c.args.block.now.labels.now) in
    record {
      between = _;
      mid = _;
      rests = _;
      number = c.own_runs-runs.result;
      cleared = cleared_from _ _ _ _ _ _ _ _ _ _ _ _ _ _ c.rests_of.ensures.0 c.rests_of.ensures.1
          (replace_done _ _ _ _ _ _ _ _ _ _ _ _ can c.len.ensures.0 c.len-2.ensures.0 (omega arith) _ c.make_room.ensures _ _ _ refl c.put_rest.ensures c.put_rest-2.ensures);
      put = c.put_runs-sum.ensures;
      number_is = c.own_runs-runs.ensures c.args.block.now.labels.now;
      inserted_is = omega arith;
      removed_is = refl;
    }
