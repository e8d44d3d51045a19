-- `fill_index` tests as the definition does, then builds.
use Rattle.std.proofs.Common.{◌∙◌, arith}
use Rattle.index.specs.FilledRows.{left_uneven, left_outside, left_empty, filled_whole}
use Rattle.index.proofs.fill_index.Goals.{then-index-rows-via-then-index-rows, then-index-rows-via-else-index-rows+then-cols-eq0, then-index-rows-via-else-index-rows+else-cols-eq0+then-cols-gt-ROW_PLACES}
use Rattle.index.proofs.fill_index.Goals as goal

pub returns-then-index-rows : goal.returns-then-index-rows
returns-then-index-rows c =
    let a = c.args in
    elim c.then-index-rows.branch [
      | then-index-rows-via-then-index-rows w ↦ left_uneven a.index.now a.rows.now a.col0 a.cols w.if-index-rows.true
      | then-index-rows-via-else-index-rows+then-cols-eq0 w ↦ left_empty a.index.now a.rows.now a.col0 a.cols (omega arith)
      | then-index-rows-via-else-index-rows+else-cols-eq0+then-cols-gt-ROW_PLACES w ↦ left_outside a.index.now a.rows.now a.col0 a.cols w.if-index-rows.false (omega arith)
    ]

pub returns-then-col0-cols : goal.returns-then-col0-cols
returns-then-col0-cols c =
    let a = c.args in
    left_outside a.index.now a.rows.now a.col0 a.cols c.if-index-rows.false (omega arith)

pub returns : goal.returns
returns c =
    let a = c.args in
    c.build_stretch.ensures ∙ filled_whole a.index.now a.rows.now a.col0 a.cols c.if-index-rows.false (omega arith)
