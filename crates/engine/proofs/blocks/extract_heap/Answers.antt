-- `extract_heap`: what is lent is the block's, and its words come back among the others.
use native.Mathlib.Omega.{arith}
use Rattle.engine.specs.Labeller.BlockCalls.{extracted}
use Rattle.engine.specs.Labeller.LentHeaps.{rows_within, block_needs, words_within, lent_holds}
use Rattle.engine.proofs.blocks.extract_heap.Goals as goal

pub block-block-requires : goal.block-block-requires
block-block-requires c = block_needs c.requires.held _ c.requires.block_in

pub words_of-a-requires : goal.words_of-a-requires
words_of-a-requires c = (rows_within (block_needs c.requires.held _ c.requires.block_in)).0

pub offset_bounds-words-a : goal.offset_bounds-words-a
offset_bounds-words-a c = omega (arith, words_within c.requires.held _ c.requires.block_in _ _ c.words_of-a.ensures)

pub slice_bounds-extract_min-count : goal.slice_bounds-extract_min-count
slice_bounds-extract_min-count c = omega (arith, words_within c.requires.held _ c.requires.block_in _ _ c.words_of-a.ensures)

pub slice_bounds-extract_min-start : goal.slice_bounds-extract_min-start
slice_bounds-extract_min-start c = omega (arith, words_within c.requires.held _ c.requires.block_in _ _ c.words_of-a.ensures)

pub slice_bounds-extract_min-end : goal.slice_bounds-extract_min-end
slice_bounds-extract_min-end c = omega (arith, words_within c.requires.held _ c.requires.block_in _ _ c.words_of-a.ensures)

pub extract_min-requires : goal.extract_min-requires
extract_min-requires c = let p = c.requires in (_, lent_holds p.held _ p.block_in _ _ c.words_of-a.ensures _ _ _ _ c.block-block.ensures)

pub returns : goal.returns
returns c =
    λ bs ss h l.
    extracted h _ l _ _ c.words_of-a.ensures _ c.extract_min.ensures.long c.block-block.ensures _ _ _
    (c.extract_min.ensures.held _ _ (lent_holds h _ l _ _ c.words_of-a.ensures _ _ _ _ c.block-block.ensures))
