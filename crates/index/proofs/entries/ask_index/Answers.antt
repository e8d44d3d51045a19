-- `ask_index` judges the question, tests the row and the stretch, then asks the row's part of the index.
use Rattle.std.proofs.Common.{◌≡◌, refl, arith}
use Rattle.std.proofs.lemmas.Result.{err_from_is_err_and}
use Rattle.definitions.specs.Index.{no_column}
use Rattle.definitions.specs.Entries.{ask_index}
use Rattle.index.specs.IndexEntries.{a_number, ready, asked_refused, asked_no_row, asked_empty, asked_leaves, asked_found, answered}
use Rattle.index.proofs.entries.ask_index.Goals.{then-row-rows-via-then-row-rows, then-row-rows-via-else-row-rows+then-first-end, then-row-rows-via-else-row-rows+else-first-end+then-end-cols}
use Rattle.index.proofs.entries.ask_index.Goals as goal

pub returns-in_err-judge_question : goal.returns-in_err-judge_question
returns-in_err-judge_question c =
    let a = c.args in
    let p = err_from_is_err_and c.from_residual.result c.from_residual.ensures.1 in
    let asked = asked_refused a.rows a.cols a.lengths.now a.index.now a.row a.first a.end _ c.in_err-judge_question.ensures (a_number _) in
    rw (p.1, p.2) (record { asked = asked; plain = answered a.rows a.cols a.lengths.now a.index.now a.row a.first a.end _ asked })

pub returns-then-row-rows : goal.returns-then-row-rows
returns-then-row-rows c =
    let a = c.args in
    let judged = c.in_ok-judge_question.ensures in
    let asked : no_column ≡ ask_index a.rows a.cols a.lengths.now a.index.now a.row a.first a.end =
    elim c.then-row-rows.branch [
      | then-row-rows-via-then-row-rows w ↦ asked_no_row a.rows a.cols a.lengths.now a.index.now a.row a.first a.end 0 judged refl (omega arith)
      | then-row-rows-via-else-row-rows+then-first-end w ↦ asked_empty a.rows a.cols a.lengths.now a.index.now a.row a.first a.end 0 judged refl (omega arith) (omega arith)
      | then-row-rows-via-else-row-rows+else-first-end+then-end-cols w ↦ asked_leaves a.rows a.cols a.lengths.now a.index.now a.row a.first a.end 0 judged refl (omega arith) (omega arith) (omega arith)
    ] in
    record { asked = asked; plain = answered a.rows a.cols a.lengths.now a.index.now a.row a.first a.end _ asked }

pub index_row-held-requires : goal.index_row-held-requires
index_row-held-requires c =
    let a = c.args in
    let f = ready a.rows a.cols a.lengths.now a.index.now 0 c.in_ok-judge_question.ensures refl in
    (omega (arith, f.sides_fit.rows_few), f.index_sized)

pub invariant_of-stretch : goal.invariant_of-stretch
invariant_of-stretch c =
    let a = c.args in
    let s = (ready a.rows a.cols a.lengths.now a.index.now 0 c.in_ok-judge_question.ensures refl).sides_fit in
    record { some = s.cols_some; inside = omega (arith, s.cols_few) }

pub returns : goal.returns
returns c =
    let a = c.args in
    let asked = asked_found a.rows a.cols a.lengths.now a.index.now a.row a.first a.end 0 c.in_ok-judge_question.ensures refl (omega arith) _ _ _ (omega arith) (omega arith) c.row_at-line.ensures c.index_row-held.ensures c.find-c.ensures.least in
    record { asked = asked; plain = answered a.rows a.cols a.lengths.now a.index.now a.row a.first a.end _ asked }
