-- `put_intervals`: the first k intervals stand at the buffer's front.
use Rattle.std.proofs.Common.{ap, arith}
use mathlib.Core.List.{flat_map}
use Rattle.definitions.specs.Limits.{interval_size}
use Rattle.definitions.specs.Lists.{up_from}
use Rattle.definitions.specs.Entries.{interval_numbers}
use Rattle.engine.specs.Heap.WordLaws.{told_is}
use Rattle.engine.specs.Session.Fronts.{front_none, front_kept, kept_padded}
use Rattle.engine.proofs.session.put_intervals.Goals as goal

pub loop-k-init : goal.loop-k-init
unfolding up_from flat_map
loop-k-init c = front_none interval_size c.args.buffer.now

pub put_numbers-requires : goal.put_numbers-requires
put_numbers-requires c = omega (arith, c.count-n.ensures.is, c.requires.1)

pub loop-k-preserved : goal.loop-k-preserved
loop-k-preserved c =
    let listed = ap interval_numbers (told_is _ _ _ c.interval-kept.ensures) in
    rw c.put_numbers.ensures (front_kept c.args.heap.now _ _ _ c.loop-k.k listed c.loop-k.invariant (omega (arith, c.count-n.ensures.is, c.requires.1)))

pub returns : goal.returns
returns c =
    let n = c.count-n.ensures in
    kept_padded _ _ _ _ _ _ c.loop-k.invariant (omega arith) n (omega (arith, n.is, c.requires.1)) (omega arith) (c.fill.ensures.after (λ y e. e))
