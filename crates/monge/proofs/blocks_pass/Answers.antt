-- `blocks_pass`: the blocks pass exactly if those of the splits that the loop has not passed do.
use mathlib.Core.Path.{refl, sym, ◌∙◌}
use native.Mathlib.Omega.{arith}
use Rattle.definitions.specs.Lists.{every}
use Rattle.definitions.specs.Blocks.{windows, windows_of}
use Rattle.splits.proofs.Sizes.{first_small}
use Rattle.monge.proofs.SplitOrder.{in_order, stopped, went, ended}
use Rattle.monge.proofs.blocks_pass.Goals.{else-not-quick_split-via-then-not-quick_split+else-not-split_passes, else-not-quick_split-via-else-not-quick_split}
use Rattle.monge.proofs.blocks_pass.Goals as goal

pub loop-k-init : goal.loop-k-init
unfolding windows_of
loop-k-init c = refl

pub overflow_add-first : goal.overflow_add-first
overflow_add-first c = omega (arith, c.first_split-first.ensures, first_small c.args.m c.requires.1)

pub quick_split-requires : goal.quick_split-requires
quick_split-requires c =
    let p = c.requires in
    let cut = in_order _ c.requires.1 _ c.requires.2 _ c.first_split-first.ensures c.loop-k.k (omega arith) _ c.split_in-split.ensures in
    (p.0, cut.before, cut.after, omega (arith, cut.inside, p.1))

pub split_passes-requires : goal.split_passes-requires
split_passes-requires c = let cut = in_order _ c.requires.1 _ c.requires.2 _ c.first_split-first.ensures c.loop-k.k (omega arith) _ c.split_in-split.ensures in (omega (arith, cut), omega (arith, cut.after))

pub returns-then-not-split_passes : goal.returns-then-not-split_passes
returns-then-not-split_passes c = stopped _ c.requires.1 _ c.requires.2 _ c.first_split-first.ensures c.loop-k.k (omega arith) _ c.split_in-split.ensures _ c.loop-k.invariant (sym c.split_passes.ensures ∙ c.if-not-split_passes.true)

pub loop-k-preserved : goal.loop-k-preserved
loop-k-preserved c =
    let next = went _ c.requires.1 _ c.requires.2 _ c.first_split-first.ensures c.loop-k.k (omega arith) _ c.split_in-split.ensures _ c.loop-k.invariant in
    elim c.else-not-quick_split.branch [
      | else-not-quick_split-via-then-not-quick_split+else-not-split_passes w ↦ next (sym w.split_passes.ensures ∙ w.if-not-split_passes.false)
      | else-not-quick_split-via-else-not-quick_split w ↦ next (c.quick_split.ensures w.if-not-quick_split.false)
    ]

pub returns : goal.returns
unfolding every windows
returns c = rw (c.loop-k.invariant, ended c.args.m c.requires.1 c.loop-k.k (omega arith))
