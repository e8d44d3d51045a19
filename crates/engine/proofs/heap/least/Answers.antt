-- `least` goes through the bests.
use mathlib.Core.Path.{◌≡◌, sym, ◌∙◌}
use native.Mathlib.Omega.{arith}
use Rattle.definitions.specs.HeapWords.{count_of}
use Rattle.engine.specs.Heap.LeastColumn.{least_first, least_next, least_stays}
use Rattle.engine.proofs.heap.least.Goals.{then-next-sum, else-next-sum}
use Rattle.engine.proofs.heap.least.Goals as goal

pub count-n-requires : goal.count-n-requires
count-n-requires c = let p = c.requires in omega arith

pub returns-then-n-eq0 : goal.returns-then-n-eq0
returns-then-n-eq0 c = sym c.count-n.ensures.is ∙ c.if-n-eq0.true

pub interval-sum-requires : goal.interval-sum-requires
interval-sum-requires c = omega (arith, c.requires, c.count-n.ensures.is, c.if-n-eq0.false)

pub loop-k-init : goal.loop-k-init
loop-k-init c = least_first _ _ c.interval-sum.ensures.best_sum_is

pub interval-next-requires : goal.interval-next-requires
interval-next-requires c = omega (arith, c.requires, c.count-n.ensures.is, c.loop-k-test.true)

pub loop-k-preserved : goal.loop-k-preserved
loop-k-preserved c =
    let l = c.loop-k in
    let s = c.interval-next.ensures.best_sum_is in
    elim c.if-next-sum.branch [
      | then-next-sum w ↦ rw (w.place-is, w.sum-is) (least_next _ _ _ _ _ l.invariant s w.if-next-sum.true)
      | else-next-sum w ↦ rw (w.place-is, w.sum-is) (least_stays _ _ _ _ _ l.invariant s w.if-next-sum.false)
    ]

pub interval-column-requires : goal.interval-column-requires
interval-column-requires c = omega (arith, c.requires, c.count-n.ensures.is, c.loop-k.invariant.inside)

pub returns : goal.returns
returns c =
    let l = c.loop-k in
    let e : l.k ≡ count_of c.args.heap.now = omega (arith, c.count-n.ensures.is) in
    record { keeps = rw e at l.invariant; column_is = c.interval-column.ensures.best_column_is }
