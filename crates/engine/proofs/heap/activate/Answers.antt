-- `activate`: the row gets all columns at once, or those that `search` finds, and reaches them.
use mathlib.Core.Path.{refl, ◌∙◌}
use lib.ListN.{length-set}
use native.Mathlib.Omega.{arith}
use Rattle.std.proofs.Common.{rules}
use Rattle.engine.specs.Heap.Holds.{ready, gap_ready}
use Rattle.engine.specs.Heap.HeapCalls.{all_fits, activated_all, marks_after, activated_none, won_needs, activated_some}
use Rattle.engine.proofs.heap.activate.Goals as goal

-- ---- all columns at once
pub wins_all-requires : goal.wins_all-requires
wins_all-requires c = let k = c.requires.1 in (omega (arith, k.held.long), k.row_in_lem)

pub put_all-requires : goal.put_all-requires
put_all-requires c = all_fits _ _ _ _ _ _ _ c.requires.1 (c.wins_all.ensures c.if-wins_all.true)

pub interval-requires : goal.interval-requires
interval-requires c =
    let k = c.requires.1 in
    let all = c.put_all.ensures in
    omega (arith, k.held.long, k.held.checked.some, all.marked.keeps.long, all.put.outside.long, length-set c.args.heap.now 0 1)

pub shape_of-heap-then-wins_all : goal.shape_of-heap-then-wins_all
shape_of-heap-then-wins_all c = let all = c.put_all.ensures in all.marked.keeps.long ∙ simp length-set at all.put.outside.long

pub returns-then-wins_all : goal.returns-then-wins_all
returns-then-wins_all c =
    let all = c.put_all.ensures in
    record { held = λ m k. activated_all _ _ _ _ _ _ m k (c.wins_all.ensures c.if-wins_all.true) _ _ all (record { is = c.interval.ensures.best_sum_is; fits = search rules }); long = all.marked.keeps.long ∙ simp length-set at all.put.outside.long }

-- ---- what is found
pub search-won-requires : goal.search-won-requires
search-won-requires c = let k = c.requires.1 in (ready _ _ _ _ _ _ k.held _ k.row_in_lem, gap_ready _ _ _ _ _ _ k.held _ k.row_in_lem k.high)

pub put_won-activated-requires : goal.put_won-activated-requires
put_won-activated-requires c = won_needs _ _ _ _ _ _ _ c.requires.1 _ _ _ _ c.search-won.ensures c.if-first-end.true

pub reach-requires : goal.reach-requires
reach-requires c =
    let p = c.requires in
    let k = p.1 in
    let l = c.if-first-end.true in
    (marks_after _ _ _ _ _ _ _ k _ _ _ _ _ _ c.put_won-activated.ensures, omega (arith, l), c.search-won.ensures.inside l, k.row_in_lem)

pub shape_of-heap-then-first-end : goal.shape_of-heap-then-first-end
shape_of-heap-then-first-end c = let w = c.put_won-activated.ensures in c.reach.ensures.long ∙ w.put.outside.long ∙ w.cleared.long

pub returns-then-first-end : goal.returns-then-first-end
returns-then-first-end c =
    let w = c.put_won-activated.ensures in
    record { held = λ m k. activated_some _ _ _ _ _ _ m k _ _ _ _ c.search-won.ensures c.if-first-end.true _ _ _ w c.reach.ensures; long = c.reach.ensures.long ∙ w.put.outside.long ∙ w.cleared.long }

pub returns : goal.returns
returns c = record { held = λ m k. activated_none _ _ _ _ _ _ m k _ _ _ _ c.search-won.ensures c.if-first-end.false; long = refl }
