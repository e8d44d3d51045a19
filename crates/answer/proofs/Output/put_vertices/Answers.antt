-- `answer::Output::put_vertices` meets its contract. The loop's invariant: the lines of the vertices before v stand in the output.
use Rattle.std.proofs.Common.{◌≡◌, ◌-◌, ◌+◌, arith}
use Rattle.answer.specs.Lines.{vertex_fields, lines_none, lines_more, length_vertices}
use Rattle.answer.specs.Output.{none_put, puts_both}
use Rattle.answer.proofs.Output.put_vertices.Goals as goal

pub loop-v-init : goal.loop-v-init
loop-v-init c = rw (lines_none _ _) (none_put _)

pub put_fields-requires : goal.put_fields-requires
put_fields-requires c =
    let p = c.loop-v.invariant in
    (omega arith, omega (arith, p.behind, p.long, length_vertices c.args.labels.now 1 (c.loop-v.v - 1)))

pub loop-v-preserved : goal.loop-v-preserved
loop-v-preserved c =
    let l = c.loop-v in
    let labels = c.args.labels.now in
    let z : l.v + 1 - 1 ≡ l.v - 1 + 1 = omega arith in
    let turn : 1 + (l.v - 1) ≡ l.v = omega arith in
    rw (z, lines_more (vertex_fields labels) 1 (l.v - 1), turn) (puts_both l.invariant c.put_fields.ensures (omega arith))
