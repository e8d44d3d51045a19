-- `serve`: the index, the calls, the rest of the answers and the kept intervals.
use mathlib.Core.Path.{refl}
use native.Mathlib.Omega.{arith}
use Rattle.std.proofs.Common.{rules}
use Rattle.engine.specs.Heap.Holds.{count_most, laid}
use Rattle.engine.specs.Session.ServedIndex.{blank_front, index_room, index_front, index_served}
use Rattle.engine.specs.Session.Whole.{served}
use Rattle.engine.proofs.session.serve.Goals as goal

pub slice_bounds-fill_index-end : goal.slice_bounds-fill_index-end
slice_bounds-fill_index-end c = blank_front _ _ c.requires.checked

pub slice_bounds-index-end-2 : goal.slice_bounds-index-end-2
slice_bounds-index-end-2 c = index_room _ _ c.requires.checked _ c.fill_index.ensures

pub slice_bounds-rectangle-end : goal.slice_bounds-rectangle-end
slice_bounds-rectangle-end c = index_front _ _ c.requires.checked _ c.fill_index.ensures

pub invariant_of-rectangle : goal.invariant_of-rectangle
invariant_of-rectangle c = record { indexed = index_served _ _ c.requires.checked _ c.fill_index.ensures }

pub run_calls-change-requires : goal.run_calls-change-requires
run_calls-change-requires c =
    let p = c.requires in
    let f = c.fresh.ensures in
    record { fresh = (record { checked = p.checked; heap_is = f; labels_is = search rules }, refl); room = (p.calls_in, p.answers_in_lem) }

pub slice_bounds-fill-count : goal.slice_bounds-fill-count
slice_bounds-fill-count c = omega (arith, c.run_calls-change.auto.answers, c.requires.answers_in_lem)

pub slice_bounds-fill-start : goal.slice_bounds-fill-start
slice_bounds-fill-start c = omega (arith, c.run_calls-change.auto.answers, c.requires.answers_in_lem)

pub put_intervals-requires : goal.put_intervals-requires
put_intervals-requires c =
    let h = c.run_calls-change.ensures.agrees.keeps.held in
    ((laid _ _ _ _ _ _ h).words, omega (arith, count_most _ _ _ _ _ _ h, c.requires.intervals_in))

pub returns : goal.returns
returns c = served _ _ _ _ _ _ _ _ _ _ _ c.run_calls-change.ensures c.requires.answers_in_lem _ _ _ refl (c.fill.ensures.after (λ y e. e)) c.put_intervals.ensures
