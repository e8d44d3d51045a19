-- The whole text: its first line, its pieces, its question, and what is left in the lent buffers.
--   PlanLeft                      what is read and left, while the buffers start at 0
--   body-.. plan_stop              the plan, part by part
--   answer_of Cleared After after-..   the answer and the buffers are the definition's
use Rattle.std.specs.Result.{is_err}
use Rattle.std.specs.Prelude.{◌≡◌, true, false, refl, List, [], map, ℕ, ◌+◌, ◌≤◌, ◌<◌, get_or, length, replicate, Option, Some, None, Result, Ok, Err}
use Rattle.std.proofs.Common.{sym, ap, ◌∙◌, arith}
use borrow.Author.Tests.{ne_eqb, le-leb, lt-leb}
use Rattle.definitions.specs.declared.ReadAnswer.{ReadAnswer}
use Rattle.definitions.specs.declared.Cause.{Cause}
use Rattle.definitions.specs.Causes.{number_of}
use Rattle.definitions.specs.Limits.{max_text, size_places, vertex_places, length_places, no_target}
use Rattle.definitions.specs.Lists.{total, first_cause}
use Rattle.definitions.specs.Network.{Piece}
use Rattle.definitions.specs.Judgement.{judge_bounds}
use Rattle.definitions.specs.Fields.{field_at}
use Rattle.definitions.specs.Reading.{refused, value, ◌>>=◌, read_line, line_bytes, piece_bytes, read_pieces, Question, read_question, Plan, read_body, read_plan, judge_length}
use Rattle.definitions.specs.Entries.{AfterRead, judge_buffers, read_refusal, held_target, after_read, reading}
use Rattle.basics.specs.Buffers.{buffers_are}
use Rattle.judgements.proofs.OneAfterAnother.{not_none}
use Rattle.text.specs.declared.Question.{Question as Asked}
use Rattle.text.specs.declared.Plan.{Plan as Planned}
use Rattle.text.specs.Outcomes.{Came}
use Rattle.text.specs.ReadSteps.{require_stop}
use Rattle.text.specs.RowReading.{line_ends}
use Rattle.text.specs.PieceReading.{Held, held_none, PiecesLeft}
use Rattle.text.specs.QuestionReading.{asked, Asks}

-- ---- the plan

abbrev plan_of : ℕ → List Piece → Question → Plan
plan_of n qs question = record { n = n; pieces = qs; source = question.source; target = question.target }

-- what an accepted plan returns
abbrev pub plan_answer : Plan → ReadAnswer
plan_answer plan = record { number = 0; n = plan.n; p = length plan.pieces; source = plan.source; target = held_target plan.target }

-- what the code holds of a plan, and the buffers
pub record PlanLeft (sizes vertices lengths : List ℕ) (held : Planned) (plan : Plan) : Type 0 where
  pub vertices_are : held.n ≡ plan.n
  pub pieces_are : held.p ≡ length plan.pieces
  pub source_is : held.question.source ≡ plan.source
  pub target_is : asked held.question.target ≡ plan.target
  pub holds : Held plan.pieces sizes vertices lengths

-- the question is read in its place
body_by : (text : List ℕ) (n p : ℕ) (qs : List Piece) (at : ℕ) → judge_bounds n p ≡ 0 → read_pieces text n (line_bytes 2) p ≡ value qs → at ≡ line_bytes 2 + total (map piece_bytes qs)
    → read_body text n p ≡ ◌>>=◌ (read_question text n at) (λ question. value (plan_of n qs question))
unfolding read_body
body_by text n p qs at b e q = rw (b, e, ← q)

-- the first line, and what `out` holds of it
module _ (text : List ℕ) where
  pub plan_stop : (j : ℕ) → read_line field_at text 0 2 ≡ refused j → read_plan text ≡ refused j
  unfolding read_plan
  plan_stop j e = rw e

  module _ (out : List ℕ) (line : (xs : List ℕ) × (read_line field_at text 0 2 ≡ value xs) × (out ≡ xs)) where
    -- the pieces begin in the text, or at its end
    pub pieces_inside : line_bytes 2 ≤ length text
    pieces_inside = omega (arith, line_ends field_at text 0 2 line.0 line.1)

    pub plan_body : (r : Result Planned Cause) (s v l : List ℕ) → Came (read_body text (get_or out 0 0) (get_or out 1 0)) r (PlanLeft s v l) → Came (read_plan text) r (PlanLeft s v l)
    unfolding read_plan
    plan_body r s v l body = rw (line.1, ← line.2) body

module _ (text : List ℕ) (n p : ℕ) where
  pub body_bounds : (e : Cause) → number_of e ≡ judge_bounds n p → read_body text n p ≡ refused (number_of e)
  unfolding read_body
  body_bounds e q = rw (← q, require_stop (number_of e) (not_none e))

  module _ (bounds : 0 ≡ judge_bounds n p) where
    pub body_pieces : (j : ℕ) → read_pieces text n (line_bytes 2) p ≡ refused j → read_body text n p ≡ refused j
    unfolding read_body
    body_pieces j e = rw (← bounds, e)

    module _ (next : ℕ) (s v l : List ℕ) (pieces : (qs : List Piece) × (read_pieces text n (line_bytes 2) p ≡ value qs) × PiecesLeft text (line_bytes 2) p next s v l qs) where
      pub body_question : (j : ℕ) → read_question text n next ≡ refused j → read_body text n p ≡ refused j
      body_question j e = body_by text n p pieces.0 next (sym bounds) pieces.1 pieces.2.reached ∙ rw e

      pub body_done : (held : Asked) → (question : Question) × (read_question text n next ≡ value question) × Asks held question
          → (plan : Plan) × (read_body text n p ≡ value plan) × PlanLeft s v l (record { n = n; p = p; question = held }) plan
      body_done held a = (
        plan_of n pieces.0 a.0,
        body_by text n p pieces.0 next (sym bounds) pieces.1 pieces.2.reached ∙ rw a.1,
        record { vertices_are = refl; pieces_are = sym pieces.2.count; source_is = a.2.0; target_is = a.2.1; holds = pieces.2.held },
      )

-- ---- the answer and the buffers

-- a target as C takes it
abbrev pub target_number : Option ℕ → ℕ
target_number None = no_target
target_number (Some target) = target

abbrev pub answer_of : Result Planned Cause → ReadAnswer
answer_of (Ok held) = record { number = 0; n = held.n; p = held.p; source = held.question.source; target = target_number held.question.target }
answer_of (Err cause) = read_refusal (number_of cause)

number_held : (target : Option ℕ) → target_number target ≡ held_target (asked target)
unfolding held_target
number_held None = refl
number_held (Some target) = refl

-- the three buffers, every place 0
pub record Cleared (s v l s' v' l' : List ℕ) : Type 0 where
  pub sizes_clear : s' ≡ replicate (length s) 0
  pub vertices_clear : v' ≡ replicate (length v) 0
  pub lengths_clear : l' ≡ replicate (length l) 0

-- of their sizes
module _ (s v l : List ℕ) (fit : 0 ≡ judge_buffers (length s) (length v) (length l)) (s' v' l' : List ℕ) (clear : Cleared s v l s' v' l') where
  abbrev zero : ℕ → List ℕ
  zero k = replicate k 0

  zeros : (s' ≡ replicate size_places 0) × (v' ≡ replicate vertex_places 0) × (l' ≡ replicate length_places 0)
  zeros = let n = buffers_are (length s) (length v) (length l) (sym fit) in (clear.sizes_clear ∙ ap zero n.0, clear.vertices_clear ∙ ap zero n.1, clear.lengths_clear ∙ ap zero n.2)

  pub cleared_held : Held [] s' v' l'
  cleared_held = held_none s' v' l' zeros.0 zeros.1 zeros.2

abbrev pub After : ReadAnswer → List ℕ → List ℕ → List ℕ → AfterRead
After answer sizes vertices lengths = record { answer = answer; sizes = sizes; vertices = vertices; lengths = lengths }

module _ (text s v l : List ℕ) where
  pub after_buffers : (e : Cause) → number_of e ≡ judge_buffers (length s) (length v) (length l) → After (read_refusal (number_of e)) s v l ≡ reading text s v l
  unfolding reading first_cause judge_buffers
  after_buffers e q = let h = not_none e in rw (← q, ne_eqb _ _ h, ne_eqb _ _ h)

  module _ (fit : 0 ≡ judge_buffers (length s) (length v) (length l)) where
    pub after_long : max_text < length text → After (read_refusal 2) s v l ≡ reading text s v l
    unfolding reading first_cause judge_length judge_buffers
    after_long h = rw (← fit, lt-leb _ _ h)

    module _ (short : length text ≤ max_text) where
      after_refused : (j : ℕ) (s' v' l' s'' v'' l'' : List ℕ) → read_plan text ≡ refused j → length s' ≡ length s → length v' ≡ length v → length l' ≡ length l → Cleared s' v' l' s'' v'' l''
          → After (read_refusal j) s'' v'' l'' ≡ reading text s v l
      unfolding reading first_cause judge_length judge_buffers after_read
      after_refused j s' v' l' s'' v'' l'' e a b c clear =
          let n = buffers_are (length s) (length v) (length l) (sym fit) in
          rw (← fit, le-leb _ _ short, e, clear.sizes_clear, clear.vertices_clear, clear.lengths_clear, a, b, c, n.0, n.1, n.2)

      after_accepted : (held : Planned) (s' v' l' : List ℕ) → (plan : Plan) × (read_plan text ≡ value plan) × PlanLeft s' v' l' held plan → After (answer_of (Ok held)) s' v' l' ≡ reading text s v l
      unfolding reading first_cause judge_length judge_buffers after_read
      after_accepted held s' v' l' w =
          let h = w.2.holds in
          rw (← fit, le-leb _ _ short, w.1, h.sizes_hold, h.vertices_hold, h.lengths_hold, w.2.vertices_are, w.2.pieces_are, w.2.source_is, number_held held.question.target, w.2.target_is)

      -- what is read is handed on, whichever it is
      pub after_plan : (r : Result Planned Cause) (s' v' l' : List ℕ) → is_err r ≡ false → Came (read_plan text) r (PlanLeft s' v' l') → After (answer_of r) s' v' l' ≡ reading text s v l
      after_plan (Ok held) s' v' l' e came = after_accepted held s' v' l' came
      after_plan (Err cause) s' v' l' e came = absurd (cc)

      pub after_cause : (r : Result Planned Cause) (s' v' l' s'' v'' l'' : List ℕ) → is_err r ≡ true → Came (read_plan text) r (PlanLeft s' v' l')
          → length s' ≡ length s → length v' ≡ length v → length l' ≡ length l → Cleared s' v' l' s'' v'' l'' → After (answer_of r) s'' v'' l'' ≡ reading text s v l
      after_cause (Ok held) s' v' l' s'' v'' l'' e came a b c clear = absurd (cc)
      after_cause (Err cause) s' v' l' s'' v'' l'' e came a b c clear = after_refused (number_of cause) s' v' l' s'' v'' l'' came a b c clear
