-- What the code's returns need: a promise kept from the laws of reading.
--   stopped                   the cause that `?` hands on
--   judged_cause judged_tail judged_left   what is judged when it is read
--   line-..                   a line, from its fields and the byte behind them
use Rattle.std.specs.Prelude.{◌≡◌, List, length, ⊤, Result, Ok, Err, Option, Some, None}
use Rattle.std.proofs.Common.{sym, ap, ◌∙◌}
use Rattle.std.specs.Result.{IsErrAnd}
use Rattle.std.specs.Option.{ok_or}
use Rattle.std.proofs.lemmas.Result.{err_from_is_err_and}
use Rattle.std.proofs.Math.Path.{refl}
use Prim.Native.Nat.{ℕ, ◌+◌, ◌*◌, ◌≤◌}
use Rattle.definitions.specs.declared.Cause.{Cause}
use Rattle.definitions.specs.declared.Cause.TheVariants.{Layout}
use Rattle.definitions.specs.Causes.{number_of, verdict}
use Rattle.definitions.specs.Fields.{FieldAnswer, field_bytes, six_at, field_answer}
use Rattle.definitions.specs.Reading.{FieldReading, Read, refused, value, read_field, read_fields, judge_line_end, read_line}
use Rattle.judgements.proofs.OneAfterAnother.{not_none}
use Rattle.text.specs.Outcomes.{Came}
use Rattle.text.specs.ReadSteps.{judged, judged_go, judged_out, field_go, field_stop, field_inside, fields_in}

-- the cause that `?` hands on
pub stopped : {A B : Type 0} (read : Read A) (Shows : B → A → Type 0) (e : Cause) (r : Result B Cause) → IsErrAnd r (λ y. y ≡ e) → read ≡ refused (number_of e) → Came read r Shows
stopped read Shows e r out h = let p = err_from_is_err_and r out in rw (p.1, p.2) h

-- a field that is a number, or none
pub field_said : (field : FieldReading) (text : List ℕ) (at : ℕ) (o : Option ℕ) → field_answer o ≡ field text at → Came (read_field field text at) (ok_or o Layout) (λ x y. x ≡ y)
field_said field text at (Some x) e = field_go field text at x e
field_said field text at None e = field_stop field text at e

-- ---- judged

-- the cause that a judgement gives
pub judged_cause : {A : Type 0} (cause : A → ℕ) (read : Read A) (a : A) → read ≡ value a → (e : Cause) → number_of e ≡ cause a → judged cause read ≡ refused (number_of e)
judged_cause cause read a r e q = judged_out cause read a r (λ z. not_none e (q ∙ z)) ∙ ap refused (sym q)

-- the judgement is the answer
pub judged_tail : {A : Type 0} (cause : A → ℕ) (read : Read A) (Shows : A → Type 0) (a : A) → read ≡ value a → Shows a → (r : Result ⊤ Cause) → verdict r ≡ cause a → Came (judged cause read) r (λ _. Shows)
judged_tail cause read Shows a e s (Ok v) q = (a, judged_go cause read a e (sym q), s)
judged_tail cause read Shows a e s (Err k) q = judged_cause cause read a e k q

-- of what is left in `out`
pub judged_left : (cause : List ℕ → ℕ) (read : Read (List ℕ)) (out : List ℕ) → (xs : List ℕ) × (read ≡ value xs) × (out ≡ xs) → (r : Result ⊤ Cause) → verdict r ≡ cause out → Came (judged cause read) r (λ _ xs. out ≡ xs)
judged_left cause read out line r q = judged_tail cause read (λ xs. out ≡ xs) out (line.1 ∙ ap value (sym line.2)) refl r q

-- ---- a line, which is its fields, judged by the byte behind them

module _ (says : List ℕ → FieldAnswer) (text : List ℕ) (at k : ℕ) where
  pub line_stop : (j : ℕ) → read_fields (six_at says) text at k ≡ refused j → read_line (six_at says) text at k ≡ refused j
  unfolding read_line
  line_stop j e = rw e

  module _ (out : List ℕ) (line : (xs : List ℕ) × (read_fields (six_at says) text at k ≡ value xs) × (out ≡ xs)) where
    pub line_in : at ≤ length text → at + field_bytes * k ≤ length text
    line_in h = fields_in (six_at says) (field_inside says) text at k line.0 line.1 h

    pub line_end : (r : Result ⊤ Cause) → verdict r ≡ judge_line_end text (at + field_bytes * k) → Came (read_line (six_at says) text at k) r (λ _ xs. out ≡ xs)
    unfolding read_line judged
    line_end r e = judged_left (λ _. judge_line_end text (at + field_bytes * k)) (read_fields (six_at says) text at k) out line r e
