-- `least_column` tests as the definition does, then asks.
use Rattle.std.proofs.Common.{arith, ◌+◌}
use Rattle.index.specs.HeldRows.{lengths_in}
use Rattle.index.specs.Questions.{find_whole}
use Rattle.index.specs.FilledRows.{column_outside, column_empty, column_leaves, column_found}
use Rattle.index.proofs.least_column.Goals.{then-cols-gt-ROW_PLACES-via-then-cols-gt-ROW_PLACES, then-cols-gt-ROW_PLACES-via-else-cols-gt-ROW_PLACES+then-col0-cols, then-first-end-via-then-first-end, then-first-end-via-else-first-end+then-end-cols}
use Rattle.index.proofs.least_column.Goals as goal

pub returns-then-cols-gt-ROW_PLACES : goal.returns-then-cols-gt-ROW_PLACES
returns-then-cols-gt-ROW_PLACES c =
    let a = c.args in
    elim c.then-cols-gt-ROW_PLACES.branch [
      | then-cols-gt-ROW_PLACES-via-then-cols-gt-ROW_PLACES w ↦ column_outside a.row.now a.held.now a.col0 a.cols a.first a.end (omega arith)
      | then-cols-gt-ROW_PLACES-via-else-cols-gt-ROW_PLACES+then-col0-cols w ↦ column_outside a.row.now a.held.now a.col0 a.cols a.first a.end (omega arith)
    ]

pub returns-then-first-end : goal.returns-then-first-end
returns-then-first-end c =
    let a = c.args in
    elim c.then-first-end.branch [
      | then-first-end-via-then-first-end w ↦ column_empty a.row.now a.held.now a.col0 a.cols a.first a.end (omega arith) (omega arith)
      | then-first-end-via-else-first-end+then-end-cols w ↦ column_leaves a.row.now a.held.now a.col0 a.cols a.first a.end (omega arith) (omega arith) (omega arith)
    ]

pub returns-then-end-first : goal.returns-then-end-first
returns-then-end-first c =
    let a = c.args in
    let q = find_whole (lengths_in a.row.now) a.held.now a.col0 a.col0 a.cols (a.col0 + a.first) (a.col0 + a.end) _ (omega arith) (omega arith) (omega arith) c.held_column.ensures.held in
    column_found a.row.now a.held.now a.col0 a.cols a.first a.end (omega arith) _ (omega arith) (omega arith) q

pub returns : goal.returns
returns c =
    let a = c.args in
    column_found a.row.now a.held.now a.col0 a.cols a.first a.end (omega arith) _ (omega arith) (omega arith) c.find.ensures.least
