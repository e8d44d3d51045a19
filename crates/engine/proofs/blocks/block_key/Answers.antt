-- `block_key`: what `heap::least` finds in the lent words is the block's least sum.
use mathlib.Core.Path.{refl}
use native.Mathlib.Omega.{arith}
use Rattle.std.proofs.Common.{Some, None}
use Rattle.engine.specs.Labeller.BlockCalls.{found_is_least}
use Rattle.engine.specs.Tree.TreeWords.{room}
use Rattle.engine.specs.Heap.Holds.{laid}
use Rattle.engine.specs.Labeller.LentHeaps.{rows_within, block_needs, words_within, lent_holds}
use Rattle.engine.proofs.blocks.block_key.Goals as goal

pub words_of-a-requires : goal.words_of-a-requires
words_of-a-requires c = (rows_within (block_needs c.requires.held _ c.requires.block_in)).0

pub offset_bounds-words-a : goal.offset_bounds-words-a
offset_bounds-words-a c = omega (arith, words_within c.requires.held _ c.requires.block_in _ _ c.words_of-a.ensures)

pub slice_bounds-least-count : goal.slice_bounds-least-count
slice_bounds-least-count c = omega (arith, words_within c.requires.held _ c.requires.block_in _ _ c.words_of-a.ensures)

pub slice_bounds-least-start : goal.slice_bounds-least-start
slice_bounds-least-start c = omega (arith, words_within c.requires.held _ c.requires.block_in _ _ c.words_of-a.ensures)

pub slice_bounds-least-end : goal.slice_bounds-least-end
slice_bounds-least-end c = omega (arith, words_within c.requires.held _ c.requires.block_in _ _ c.words_of-a.ensures)

pub least-requires : goal.least-requires
least-requires c =
    let p = c.requires in
    (laid _ _ _ _ _ _ (lent_holds p.held _ p.block_in _ _ c.words_of-a.ensures _ _ _ _ (record { rows_are = refl; col0_is = refl; cols_is = refl; labels_are = refl }))).words

pub returns-in-None : goal.returns-in-None
returns-in-None c =
    λ bs ss h l.
    rw (← found_is_least h _ l _ _ c.words_of-a.ensures None (rw c.in-None.is at c.least.ensures))

pub key-requires : goal.key-requires
key-requires c = let p = c.requires in omega (arith, p.held.parted.few, p.block_in, room)

pub returns-in-Some : goal.returns-in-Some
returns-in-Some c =
    λ bs ss h l.
    rw (← found_is_least h _ l _ _ c.words_of-a.ensures (Some c.in-Some.lowest) (rw c.in-Some.is at c.least.ensures)) (c.key.ensures c.in-Some.lowest.column)
