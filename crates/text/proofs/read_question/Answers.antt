-- `read_question`: as many places are lent as the line has fields.
use mathlib.Core.Path.{◌≡◌, sym}
use mathlib.Core.List.{[], ◌∷◌}
use Prim.Native.Nat.{ℕ, ◌≤◌}
use native.Mathlib.Omega.{arith}
use lib.ListN.{length, take}
use lib.Seq.{length-take-le}
use Rattle.text.specs.QuestionReading.{question_sized}
use Rattle.text.proofs.read_question.Goals as goal

-- the first k of two places
lent : (k : ℕ) → k ≤ 2 → k ≡ length (take {A = ℕ} k (0 ∷ 0 ∷ []))
lent k few = sym (length-take-le k (0 ∷ 0 ∷ []) few)

pub slice_bounds-read_question_line-end : goal.slice_bounds-read_question_line-end
slice_bounds-read_question_line-end c = lent _ c.question_size-k.ensures.few.1

pub read_question_line-requires : goal.read_question_line-requires
read_question_line-requires c =
    let places = lent _ c.question_size-k.ensures.few.1 in
    (c.requires, omega arith, omega arith)

pub returns : goal.returns
returns c =
    let a = c.args in
    rw (question_sized a.text.now a.n a.at, ← c.question_size-k.ensures.size, lent _ c.question_size-k.ensures.few.1) c.read_question_line.ensures
