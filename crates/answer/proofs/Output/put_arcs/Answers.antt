-- `answer::Output::put_arcs` meets its contract. The loop's invariant: the lines of the arcs before arc i stand in the output.
use Rattle.std.proofs.Common.{zero-add, ◌≡◌, ◌*◌, ◌+◌, ◌-◌, ℕ, arith, length}
use Rattle.definitions.specs.Limits.{arc_size}
use Rattle.answer.specs.Lines.{arc_fields, lines_none, lines_more, length_numbers, length_arcs}
use Rattle.answer.specs.Output.{none_put, puts_both}
use Rattle.answer.proofs.Output.put_arcs.Goals as goal

-- the part of the buffer that is lent is an arc's four numbers
lent : (i : ℕ) → arc_size * i + arc_size - arc_size * i ≡ arc_size
lent i = omega arith

pub loop-i-init : goal.loop-i-init
loop-i-init c = rw (lines_none _ _) (none_put _)

pub put_fields-requires : goal.put_fields-requires
put_fields-requires c =
    let l = c.loop-i in
    let p = l.invariant in
    let arcs = c.args.arcs.now in
    let long : length (arc_fields arcs l.i) ≡ arc_size = length_numbers arcs l.i (omega arith) in
    rw (lent l.i, long) (omega arith, omega (arith, p.behind, p.long, length_arcs arcs l.i (omega arith)))

pub loop-i-preserved : goal.loop-i-preserved
loop-i-preserved c =
    let l = c.loop-i in
    rw (lines_more (arc_fields c.args.arcs.now) 0 l.i, zero-add) (puts_both l.invariant (rw (lent l.i) at c.put_fields.ensures) (omega arith))
