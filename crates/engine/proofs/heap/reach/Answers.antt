-- `reach`: the columns up to the one that is looked at are reached.
use mathlib.Core.Path.{◌≡◌, refl, sym, ◌∙◌}
use native.Mathlib.Omega.{arith}
use Rattle.engine.specs.Heap.Reaching.{reach_none, reach_full, reach_more}
use Rattle.engine.proofs.heap.reach.Goals as goal

pub reached-requires : goal.reached-requires
reached-requires c = omega (arith, c.requires.0.words)

pub shape_of-heap-then-reached-block : goal.shape_of-heap-then-reached-block
shape_of-heap-then-reached-block c = refl

pub returns-then-reached-block : goal.returns-then-reached-block
returns-then-reached-block c = let p = c.requires in reach_full _ _ _ _ _ p.0 _ _ p.2 (sym c.reached.ensures.is ∙ c.if-reached-block.true)

pub loop-c-init : goal.loop-c-init
loop-c-init c = let p = c.requires in reach_none _ _ _ _ _ p.0 _ _ (λ d a b. absurd (omega arith))

pub reach_column-requires : goal.reach_column-requires
reach_column-requires c = let p = c.requires in let i = c.loop-c.invariant in (i.reaches.marks, omega (arith, p.2, c.loop-c-test.true), p.3)

pub loop-c-preserved : goal.loop-c-preserved
loop-c-preserved c =
    let i = c.loop-c.invariant in
    reach_more _ _ _ _ _ _ _ _ _ (omega arith) i c.reach_column.ensures

pub shape_of-heap : goal.shape_of-heap
shape_of-heap c = c.loop-c.invariant.long

pub returns : goal.returns
returns c =
    let i = c.loop-c.invariant in
    let z : c.loop-c.c ≡ c.args.end = omega (arith, c.requires.1) in
    rw z at i
