-- `KeptArcs::put_arcs` puts the arcs into the buffer from the last one on, as they are followed back from the target.
use Rattle.std.proofs.Common.{sym, ◌∙◌, arith}
use Rattle.engine.specs.Session.Fronts.{copied_sets}
use Rattle.routes.specs.Writing.{put_begun, put_in, put_room, put_needs, put_next, put_done, numbers_four}
use Rattle.routes.proofs.KeptArcs.put_arcs.Goals as goal

-- ---- needs
pub loop-k-init : goal.loop-k-init
loop-k-init c = put_begun c.requires

pub overflow_sub-word : goal.overflow_sub-word
overflow_sub-word c = (put_in c.requires c.loop-k.invariant).0

pub bounds-self-v : goal.bounds-self-v
bounds-self-v c = (put_in c.requires c.loop-k.invariant).2

pub slice_bounds-copy_from_slice-end : goal.slice_bounds-copy_from_slice-end
slice_bounds-copy_from_slice-end c = put_room c.requires c.loop-k.invariant (omega arith)

pub numbers-requires : goal.numbers-requires
numbers-requires c = put_needs c.requires c.loop-k.invariant (omega arith)

pub tail-v-requires : goal.tail-v-requires
tail-v-requires c = let p = put_needs c.requires c.loop-k.invariant (omega arith) in (p.places, p.vertices_long)

pub loop-k-preserved : goal.loop-k-preserved
loop-k-preserved c =
    let l = c.loop-k in
    let room = put_room c.requires l.invariant (omega arith) in
    let copied = c.copy_from_slice.ensures.after ∙ c.numbers.ensures in
    put_next c.requires l.invariant (omega arith) _ _ (copied_sets l.arcs _ _ _ _ copied (sym (numbers_four _)) room) c.tail-v.ensures

pub returns : goal.returns
returns c = put_done c.requires c.loop-k.invariant (omega arith)
