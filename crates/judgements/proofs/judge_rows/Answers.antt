-- `judge_rows`: the rows are judged as those that the loop has not passed.
use mathlib.Core.Path.{◌≡◌, sym, ◌∙◌}
use mathlib.Core.List.{List, [], ◌∷◌}
use Prim.Native.Nat.{ℕ, ◌+◌, ◌-◌, ◌*◌, ◌≤◌, ◌<◌}
use native.Mathlib.Numerals.{add-one}
use native.Mathlib.Omega.{arith}
use borrow.Author.Rules.{rules}
use lib.ListN.{length, take, drop, drop_of_length-le}
use lib.Seq.{drop-cons}
use Rattle.definitions.specs.Limits.{row_places}
use Rattle.definitions.specs.Lists.{first_cause}
use Rattle.definitions.specs.Judgement.{judge_row, judge_rows}
use Rattle.definitions.proofs.Laws.CauseLaws.{passed, last}
use Rattle.monge.specs.PieceTables.{length_rows, row_in_lem}
use Rattle.monge.specs.Matrix.{rows_in}
use Rattle.judgements.proofs.OneAfterAnother.{first_is}
use Rattle.judgements.proofs.judge_rows.Goals as goal

-- what is left begins with the row that is judged
next : (m : ℕ) (lengths : List ℕ) (i : ℕ) → i < m
    → judge_rows i (drop i (rows_in m lengths))
    ≡ first_cause (judge_row i (take (row_places * i + m - row_places * i) (drop (row_places * i) lengths)) ∷ judge_rows (i + 1) (drop (i + 1) (rows_in m lengths)) ∷ [])
unfolding judge_rows
next m lengths i l =
    let f : row_places * i + m - row_places * i ≡ m = omega arith in
    let k : i < length (rows_in m lengths) = rw (length_rows m lengths) l in
    rw (f, add-one i, drop-cons (rows_in m lengths) i [] k, row_in_lem m lengths i l)

pub returns-in_err-judge_row : goal.returns-in_err-judge_row
returns-in_err-judge_row c = rw (c.loop-i.invariant, next _ _ c.loop-i.i c.loop-i-test.true) (search (rules, first_is))

pub loop-i-preserved : goal.loop-i-preserved
loop-i-preserved c = c.loop-i.invariant ∙ next _ _ c.loop-i.i c.loop-i-test.true ∙ passed _ _ (sym c.in_ok-judge_row.ensures) ∙ last _

pub returns : goal.returns
unfolding judge_rows
returns c =
    let a = c.args in
    let h : length (rows_in a.m a.lengths.now) ≤ c.loop-i.i = omega (arith, length_rows a.m a.lengths.now) in
    rw (c.loop-i.invariant, drop_of_length-le _ h)
