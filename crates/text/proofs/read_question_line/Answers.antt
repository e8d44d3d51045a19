-- `read_question_line`: the line, the source and the target, then the text's end.
use mathlib.Core.Path.{◌≡◌, refl}
use mathlib.Core.Logic.{◌≢◌}
use Prim.Native.Nat.{◌+◌}
use native.Mathlib.Omega.{arith}
use lib.ListN.{length}
use Rattle.definitions.specs.Reading.{line_bytes}
use Rattle.text.specs.Returns.{stopped}
use Rattle.text.specs.QuestionReading.{question_stop, question_judged, question_open, question_done}
use Rattle.text.proofs.read_question_line.Goals as goal

pub returns-in_err-read_line : goal.returns-in_err-read_line
returns-in_err-read_line c = stopped _ _ _ _ c.from_residual.ensures.1 (question_stop _ _ _ _ _ c.in_err-read_line.ensures)

pub returns-in_err-judge_question : goal.returns-in_err-judge_question
returns-in_err-judge_question c = stopped _ _ _ _ c.from_residual-in_err-judge_question.ensures.1 (question_judged _ _ _ _ _ c.in_ok-read_line.ensures _ refl c.target_in.ensures _ c.in_err-judge_question.ensures)

pub returns-then-text-at : goal.returns-then-text-at
returns-then-text-at c =
    let a = c.args in
    let more : length a.text.now ≢ a.at + line_bytes (length a.fields.now) = λ e. omega (arith, c.if-text-at.true) in
    question_open _ _ _ _ _ c.in_ok-read_line.ensures _ refl c.target_in.ensures c.in_ok-judge_question.ensures more

pub returns : goal.returns
returns c =
    let a = c.args in
    let closed : length a.text.now ≡ a.at + line_bytes (length a.fields.now) = omega arith in
    question_done _ _ _ _ _ c.in_ok-read_line.ensures _ refl c.target_in.ensures c.in_ok-judge_question.ensures closed
