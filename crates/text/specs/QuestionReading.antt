-- The question line: one field or two, the judgement of what they say, and the text's end.
--   size_one size_two size_short       how many fields it has
--   asked target_lem asked-..           the target that its fields say, and its judgement
--   first_counts second_counts          the source is judged, then the target
--   Asks                               the source and the target that are returned
--   read_question_line question_sized    a question line of k fields, and of as many as the text says
--   question-..                        the line, step by step
use Rattle.std.specs.Prelude.{◌≡◌, refl, List, [], ◌∷◌, ℕ, ◌+◌, ◌≤◌, get_or, length, Option, Some, None, slice_get as get}
use Rattle.std.proofs.Common.{sym, ap, ◌∙◌}
use Rattle.std.proofs.Math.Logic.{◌≢◌}
use Rattle.std.proofs.Math.Option.{Option as Target, none, some}
use native.Mathlib.Omega.{arith}
use borrow.Author.Tests.{eq-eqb, ne_eqb}
use Rattle.std.proofs.Math.ListN.{get_or-eq_default}
use Rattle.definitions.specs.declared.Cause.{Cause}
use Rattle.definitions.specs.Causes.{number_of}
use Rattle.definitions.specs.Lists.{first_cause}
use Rattle.definitions.specs.Judgement.{judge_source, judge_target}
use Rattle.definitions.specs.Fields.{line_end, field_bytes, field_at}
use Rattle.definitions.specs.Reading.{Read, refused, value, ◌>>=◌, require, judge_line_end, read_line, line_bytes, judge_end, Question, target_in, question_of, question_size, judge_asked, read_question}
use Rattle.definitions.proofs.Laws.CauseLaws.{no_cause}
use Rattle.judgements.proofs.OneAfterAnother.{not_none, first_is, next_is, last_is}
use Rattle.text.specs.declared.Question.{Question as Asked}
use Rattle.text.specs.ReadSteps.{require_two}

-- ---- how many fields

module _ (text : List ℕ) (at : ℕ) where
  pub size_one : get_or text (at + field_bytes) 0 ≡ line_end → 1 ≡ question_size text at
  unfolding question_size judge_line_end
  size_one h = rw (eq-eqb _ _ h)

  pub size_two : get_or text (at + field_bytes) 0 ≢ line_end → 2 ≡ question_size text at
  unfolding question_size judge_line_end
  size_two h = rw (ne_eqb _ _ h)

  -- nothing follows the first field
  pub size_short : length text ≤ at + field_bytes → 2 ≡ question_size text at
  size_short h = size_two (λ e. omega (arith, get_or-eq_default text 0 {n = at + field_bytes} h))

-- ---- the target

-- the target that the code holds
abbrev pub asked : Option ℕ → Target ℕ
asked None = none
asked (Some target) = some target

-- the second field, if there is one
pub target_lem : (fields : List ℕ) → asked (get fields 1) ≡ target_in fields
unfolding target_in
target_lem [] = refl
target_lem (x ∷ []) = refl
target_lem (x ∷ y ∷ fields) = refl

pub asked_none : (n : ℕ) → 0 ≡ judge_asked n none
unfolding judge_asked
asked_none n = refl

pub asked_some : (n target : ℕ) → judge_target n target ≡ judge_asked n (some target)
unfolding judge_asked
asked_some n target = refl

-- ---- the line

-- the question that the code holds
abbrev pub Asks : Asked → Question → Type 0
Asks held question = (held.source ≡ question.source) × (asked held.target ≡ question.target)

-- one judgement, then the other: the first cause counts
pub first_counts : (e : Cause) (a b : ℕ) → number_of e ≡ a → number_of e ≡ first_cause (a ∷ b ∷ [])
first_counts e a b h = first_is e a (b ∷ []) h

pub second_counts : (r a b : ℕ) → 0 ≡ a → r ≡ b → r ≡ first_cause (a ∷ b ∷ [])
second_counts r a b z h = next_is r a (b ∷ []) z (last_is r b h)

-- a question line of k fields
unfoldable pub read_question_line : List ℕ → ℕ → ℕ → ℕ → Read Question
read_question_line text n at k = do
  fields ← read_line field_at text at k
  let question = question_of fields
  _ ← require (judge_source n question.source)
  _ ← require (judge_asked n question.target)
  _ ← require (judge_end text (at + line_bytes k))
  value question

-- it has as many fields as the text says
pub question_sized : (text : List ℕ) (n at : ℕ) → read_question text n at ≡ read_question_line text n at (question_size text at)
unfolding read_question read_question_line
question_sized text n at = refl

module _ (text : List ℕ) (n at k : ℕ) where
  pub question_stop : (j : ℕ) → read_line field_at text at k ≡ refused j → read_question_line text n at k ≡ refused j
  unfolding read_question_line
  question_stop j e = rw e

  -- its fields are in `fields`
  module _ (fields : List ℕ) (line : (xs : List ℕ) × (read_line field_at text at k ≡ value xs) × (fields ≡ xs)) (held : Asked) (first : held.source ≡ get_or fields 0 0) (second : held.target ≡ get fields 1) where
    target_is : asked held.target ≡ target_in fields
    target_is = ap asked second ∙ target_lem fields

    line_is : read_line field_at text at k ≡ value fields
    line_is = line.1 ∙ ap value (sym line.2)

    -- both judgements, one after the other
    abbrev pub judgement : ℕ
    judgement = first_cause (judge_source n held.source ∷ judge_asked n (asked held.target) ∷ [])

    pub question_judged : (e : Cause) → number_of e ≡ judgement → read_question_line text n at k ≡ refused (number_of e)
    unfolding read_question_line question_of
    question_judged e q = rw (line_is, ← first, ← target_is) (require_two (judge_source n held.source) (judge_asked n (asked held.target)) (number_of e) _ q (not_none e))

    module _ (sound : 0 ≡ judgement) where
      causes : (judge_source n held.source ≡ 0) × (judge_asked n (asked held.target) ≡ 0)
      causes = let both = no_cause (judge_source n held.source ∷ judge_asked n (asked held.target) ∷ []) (sym sound) in (both.0, both.1.0)

      -- bytes follow the line, or none
      pub question_open : length text ≢ at + line_bytes k → read_question_line text n at k ≡ refused 3
      unfolding read_question_line question_of judge_end
      question_open h = rw (line_is, ← first, ← target_is, causes.0, causes.1, ne_eqb _ _ h)

      pub question_done : length text ≡ at + line_bytes k → (question : Question) × (read_question_line text n at k ≡ value question) × Asks held question
      unfolding read_question_line question_of judge_end
      question_done h = (question_of fields, rw (line_is, ← first, ← target_is, causes.0, causes.1, eq-eqb _ _ h), (first, target_is))
