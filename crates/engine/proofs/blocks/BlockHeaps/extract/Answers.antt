-- `BlockHeaps::extract` meets its contract: the tournament gives the block of least sum, and that block its column.
use mathlib.Core.Path.{refl, sym}
use native.Mathlib.Omega.{arith}
use Rattle.definitions.specs.Best.{nobody}
use Rattle.engine.specs.Labeller.Extractions.{chosen_is, picked_in, extracted, block_needs, block_part, block_left, block_column, block_parent}
use Rattle.engine.proofs.blocks.BlockHeaps.extract.Goals as goal

pub winner-requires : goal.winner-requires
winner-requires c = (_, c.requires.running.played)

pub returns-in_err-b : goal.returns-in_err-b
returns-in_err-b c = rw c.from_residual.ensures (λ bs ss f h k t. (sym (chosen_is h nobody c.in_err-b.ensures), h))

pub extract_block-requires : goal.extract_block-requires
extract_block-requires c = block_needs c.requires _ _ c.in_ok-b.ensures

pub returns-in_default : goal.returns-in_default
returns-in_default c = absurd (block_left c.requires _ _ c.in_ok-b.ensures _ (rw c.in_default.is at c.extract_block.ensures))

pub overflow_mul-last : goal.overflow_mul-last
overflow_mul-last c = omega (arith, block_part c.requires _ _ c.in_ok-b.ensures)

pub overflow_add-last : goal.overflow_add-last
overflow_add-last c = omega (arith, block_part c.requires _ _ c.in_ok-b.ensures)

pub offset_bounds-tables-b : goal.offset_bounds-tables-b
offset_bounds-tables-b c = omega (arith, block_part c.requires _ _ c.in_ok-b.ensures)

pub bounds-tables-b : goal.bounds-tables-b
bounds-tables-b c = omega (arith, block_part c.requires _ _ c.in_ok-b.ensures)

pub overflow_sub-y : goal.overflow_sub-y
overflow_sub-y c = omega (arith, block_column c.requires _ _ c.in_ok-b.ensures _ _ (rw c.in-Some.is at c.extract_block.ensures))

pub bounds-tables-y : goal.bounds-tables-y
bounds-tables-y c = omega (arith, block_column c.requires _ _ c.in_ok-b.ensures _ _ (rw c.in-Some.is at c.extract_block.ensures))

pub overflow_add-vertex : goal.overflow_add-vertex
overflow_add-vertex c = omega (arith, block_column c.requires _ _ c.in_ok-b.ensures _ _ (rw c.in-Some.is at c.extract_block.ensures))

pub offset_bounds-tables-y : goal.offset_bounds-tables-y
offset_bounds-tables-y c = omega (arith, block_column c.requires _ _ c.in_ok-b.ensures _ _ (rw c.in-Some.is at c.extract_block.ensures))

pub overflow_mul-top : goal.overflow_mul-top
overflow_mul-top c = omega (arith, block_part c.requires _ _ c.in_ok-b.ensures)

pub overflow_add-top : goal.overflow_add-top
overflow_add-top c = omega (arith, block_part c.requires _ _ c.in_ok-b.ensures)

pub offset_bounds-tables-b-2 : goal.offset_bounds-tables-b-2
offset_bounds-tables-b-2 c = omega (arith, block_part c.requires _ _ c.in_ok-b.ensures)

pub bounds-tables-b-2 : goal.bounds-tables-b-2
bounds-tables-b-2 c = omega (arith, block_part c.requires _ _ c.in_ok-b.ensures)

pub overflow_add-top-2 : goal.overflow_add-top-2
overflow_add-top-2 c = omega (arith, block_parent c.requires _ _ c.in_ok-b.ensures _ _ (rw c.in-Some.is at c.extract_block.ensures))

pub arc_word-arc-requires : goal.arc_word-arc-requires
arc_word-arc-requires c = (block_parent c.requires _ _ c.in_ok-b.ensures _ _ (rw c.in-Some.is at c.extract_block.ensures), omega (arith, block_column c.requires _ _ c.in_ok-b.ensures _ _ (rw c.in-Some.is at c.extract_block.ensures)))

pub returns : goal.returns
returns c =
    λ bs ss f h k t.
    rw c.arc_word-arc.ensures (extracted h _ _ c.in_ok-b.ensures ((rw c.in-Some.is at c.extract_block.ensures) bs ss h (picked_in h _ _ c.in_ok-b.ensures)) k _ _ refl f t)
