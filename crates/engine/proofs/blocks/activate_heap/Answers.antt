-- `activate_heap`: what is lent is the block's, and its words come back among the others.
use native.Mathlib.Omega.{arith}
use Rattle.engine.specs.Labeller.BlockCalls.{can_activate, activated}
use Rattle.engine.specs.Labeller.LentHeaps.{rows_within, block_needs, words_within}
use Rattle.engine.proofs.blocks.activate_heap.Goals as goal

pub block-block-requires : goal.block-block-requires
block-block-requires c = block_needs c.requires.held _ c.requires.accepts.block_in

pub words_of-a-requires : goal.words_of-a-requires
words_of-a-requires c = (rows_within (block_needs c.requires.held _ c.requires.accepts.block_in)).0

pub offset_bounds-words-a : goal.offset_bounds-words-a
offset_bounds-words-a c = omega (arith, words_within c.requires.held _ c.requires.accepts.block_in _ _ c.words_of-a.ensures)

pub slice_bounds-activate-count : goal.slice_bounds-activate-count
slice_bounds-activate-count c = omega (arith, words_within c.requires.held _ c.requires.accepts.block_in _ _ c.words_of-a.ensures)

pub slice_bounds-activate-start : goal.slice_bounds-activate-start
slice_bounds-activate-start c = omega (arith, words_within c.requires.held _ c.requires.accepts.block_in _ _ c.words_of-a.ensures)

pub slice_bounds-activate-end : goal.slice_bounds-activate-end
slice_bounds-activate-end c = omega (arith, words_within c.requires.held _ c.requires.accepts.block_in _ _ c.words_of-a.ensures)

pub activate-requires : goal.activate-requires
activate-requires c = let p = c.requires in (_, can_activate p.held _ p.accepts.block_in _ _ c.words_of-a.ensures c.block-block.ensures _ p.accepts.accepted)

pub returns : goal.returns
returns c =
    λ bs ss h a.
    activated h _ a.block_in _ _ c.words_of-a.ensures _ c.activate.ensures.long c.block-block.ensures _ _ a.accepted
    (c.activate.ensures.held _ (can_activate h _ a.block_in _ _ c.words_of-a.ensures c.block-block.ensures _ a.accepted))
