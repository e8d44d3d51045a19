-- `KeptArcs::write_route`: the target's label, and the arcs that lead there if it is reached.
use mathlib.Core.Path.{refl}
use native.Mathlib.Omega.{arith}
use Rattle.routes.specs.Writing.{target_in_lem, wrote_none, wrote_counts, wrote_puts, wrote_all}
use Rattle.routes.proofs.KeptArcs.write_route.Goals as goal

-- ---- needs
pub overflow_sub-label : goal.overflow_sub-label
overflow_sub-label c = c.requires.low

pub offset_bounds-labels-target : goal.offset_bounds-labels-target
offset_bounds-labels-target c = omega (arith, c.requires.high)

pub bounds-labels-target : goal.bounds-labels-target
bounds-labels-target c = target_in_lem c.requires refl

pub returns-then-label : goal.returns-then-label
returns-then-label c = wrote_none c.requires refl c.if-label.true (c.fill.ensures.after (λ y e. e))

pub count_arcs-count-requires : goal.count_arcs-count-requires
count_arcs-count-requires c = wrote_counts c.requires refl c.if-label.false

pub put_arcs-requires : goal.put_arcs-requires
put_arcs-requires c = wrote_puts c.requires refl c.if-label.false c.count_arcs-count.ensures (c.fill.ensures.after (λ y e. e))

pub returns : goal.returns
returns c = wrote_all c.requires refl c.if-label.false c.count_arcs-count.ensures c.put_arcs.ensures
