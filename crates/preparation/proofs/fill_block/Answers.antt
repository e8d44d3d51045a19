-- `fill_block`: the numbers of the block are words of 32 bits, and the rows between them are lent.
use mathlib.Core.Path.{◌≡◌}
use Prim.Native.Nat.{◌+◌, ◌-◌}
use native.Mathlib.Omega.{arith}
use Rattle.preparation.specs.Prepared.{row_in, row_count_in}
use Rattle.preparation.specs.FilledBlocks.{block_narrow, index_left, matrix_left, block_filled}
use Rattle.preparation.proofs.fill_block.Goals.{then-bottom-index-via-then-bottom-index, then-bottom-index-via-else-bottom-index+then-bottom-matrix}
use Rattle.preparation.proofs.fill_block.Goals as goal

pub returns-then-cols-lt2 : goal.returns-then-cols-lt2
returns-then-cols-lt2 c = let a = c.args in block_narrow a.matrix.now a.tables.now a.index.now a.b c.if-cols-lt2.true

pub returns-then-bottom-index : goal.returns-then-bottom-index
returns-then-bottom-index c =
    let a = c.args in
    let some = c.if-cols-lt2.false in
    elim c.then-bottom-index.branch [
      | then-bottom-index-via-then-bottom-index w ↦ index_left a.matrix.now a.tables.now a.index.now a.b some w.if-bottom-index.true
      | then-bottom-index-via-else-bottom-index+then-bottom-matrix w ↦ matrix_left a.matrix.now a.tables.now a.index.now a.b some w.if-bottom-index.false w.if-bottom-matrix.true
    ]

pub returns : goal.returns
returns c =
    let a = c.args in
    let e : row_in a.tables.now a.b + row_count_in a.tables.now a.b - row_in a.tables.now a.b ≡ row_count_in a.tables.now a.b = omega arith in
    block_filled a.matrix.now a.tables.now a.index.now a.b c.if-cols-lt2.false c.if-bottom-index.false c.if-bottom-matrix.false
    _ c.fill_index.new.index e c.fill_index.ensures
