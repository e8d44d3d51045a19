-- `build_index` judges in the order of the definition, then writes the index of the loaded rectangle.
use Rattle.std.proofs.Common.{◌≡◌, refl, sym, ap, ◌∙◌, List, ℕ, length, arith}
use Rattle.std.proofs.lemmas.Result.{err_from_is_err_and}
use Rattle.definitions.specs.Index.{index_of}
use Rattle.definitions.specs.Entries.{rectangle_of, judge_rectangle}
use Rattle.monge.specs.Matrix.{at}
use Rattle.monge.specs.Rectangles.{rectangle_check}
use Rattle.rectangles.specs.RectangleRows.{grid, length_grid, grid_entry}
use Rattle.rectangles.specs.RectangleJudgement.{lengths_in_lem, judged_early, judged_block, judged_whole}
use Rattle.index.specs.IndexRows.{index_same}
use Rattle.index.specs.IndexEntries.{a_number, buffers_sized, built_buffers, built_cause, built_done}
use Rattle.index.proofs.entries.build_index.Goals as goal

pub returns-in_err-judge_buffers : goal.returns-in_err-judge_buffers
returns-in_err-judge_buffers c =
    let a = c.args in
    let p = err_from_is_err_and c.from_residual.result c.from_residual.ensures.1 in
    rw (p.1, p.2) (sym (built_buffers a.rows a.cols a.lengths.now a.index.now _ c.in_err-judge_buffers.ensures (a_number _)))

pub returns-in_err-judge_lengths : goal.returns-in_err-judge_lengths
returns-in_err-judge_lengths c =
    let a = c.args in
    let failed = c.from_residual-in_err-judge_lengths in
    let p = err_from_is_err_and failed.result failed.ensures.1 in
    let cause = judged_early a.rows a.cols a.lengths.now _ c.in_err-judge_lengths.ensures (a_number _) in
    rw (p.1, p.2) (sym (built_cause a.rows a.cols a.lengths.now a.index.now 0 c.in_ok-judge_buffers.ensures refl _ cause (a_number _)))

pub returns-then-not-is_monge : goal.returns-then-not-is_monge
returns-then-not-is_monge c =
    let a = c.args in
    let sized = buffers_sized a.lengths.now a.index.now (sym c.in_ok-judge_buffers.ensures) in
    let s = (lengths_in_lem a.rows a.cols a.lengths.now (sym c.in_ok-judge_lengths.ensures)).sides_fit in
    let fails = rectangle_check a.lengths.now a.rows a.cols _ sized.0 s.rows_few s.cols_few c.is_monge.ensures ∙ c.if-not-is_monge.true in
    let cause = judged_block a.rows a.cols a.lengths.now 0 c.in_ok-judge_lengths.ensures refl fails in
    sym (built_cause a.rows a.cols a.lengths.now a.index.now 0 c.in_ok-judge_buffers.ensures refl 7 cause (omega arith))

pub write_index-requires : goal.write_index-requires
write_index-requires c =
    let a = c.args in
    let sized = buffers_sized a.lengths.now a.index.now (sym c.in_ok-judge_buffers.ensures) in
    let s = (lengths_in_lem a.rows a.cols a.lengths.now (sym c.in_ok-judge_lengths.ensures)).sides_fit in
    (s.rows_few, s.cols_some, s.cols_few, ap length c.load-rectangle.ensures ∙ length_grid a.lengths.now, sized.1)

pub returns : goal.returns
returns c =
    let a = c.args in
    let sized = buffers_sized a.lengths.now a.index.now (sym c.in_ok-judge_buffers.ensures) in
    let s = (lengths_in_lem a.rows a.cols a.lengths.now (sym c.in_ok-judge_lengths.ensures)).sides_fit in
    let holds = rectangle_check a.lengths.now a.rows a.cols _ sized.0 s.rows_few s.cols_few c.is_monge.ensures ∙ c.if-not-is_monge.false in
    let passed : 0 ≡ judge_rectangle a.rows a.cols (rectangle_of a.lengths.now) = judged_whole a.rows a.cols a.lengths.now 0 c.in_ok-judge_lengths.ensures refl holds in
    let same : index_of (at (grid a.lengths.now)) a.rows a.cols ≡ index_of (rectangle_of a.lengths.now) a.rows a.cols =
    index_same (at (grid a.lengths.now)) (rectangle_of a.lengths.now) a.rows a.cols (λ i k l r. grid_entry a.lengths.now i k (omega (arith, s.rows_few)) (omega (arith, s.cols_few))) in
    let written = c.write_index.ensures ∙ ap (λ (rows : List (List ℕ)). index_of (at rows) a.rows a.cols) c.load-rectangle.ensures ∙ same in
    ap (λ (l : List ℕ). record { number = 0; index = l }) written
    ∙ sym (built_done a.rows a.cols a.lengths.now a.index.now 0 c.in_ok-judge_buffers.ensures refl 0 passed refl)
