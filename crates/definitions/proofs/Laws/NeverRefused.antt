-- Which parts of a text are never refused by a number, and what that says where the whole is.
--   Never past upto either               of two parts the one is refused, where the other never is; either is
--   value_never then_never               what is never refused by a number
--   require_is cause_never               a cause is refused by its own number and no other
--   field_never line_never               a field and a line are refused by no number above 3
--   question_never                       a question line is refused by 3, 8 and 12 alone
use Rattle.std.specs.Prelude.{◌≡◌, refl, Bool, true, false, cond, ◌≢◌, ◌⊎◌, eqb, leb, get_or, length, take, drop}
use Rattle.std.proofs.Common.{sym, inl, inr, ⊎_elim}
use mathlib.Core.List.{List, [], ◌∷◌}
use Rattle.std.proofs.Math.Option.{Option, none, some}
use Prim.Native.Nat.{ℕ, zero, suc, ◌+◌, ◌*◌, ◌<◌}
use native.Mathlib.Omega.{arith}
use Rattle.logic.specs.Tests.{Truth, holds, fails, truth}
use Rattle.definitions.specs.Lists.{within}
use Rattle.definitions.specs.Judgement.{judge_source, judge_target}
use Rattle.definitions.specs.Fields.{line_end, field_bytes, FieldAnswer, six_at, field_at}
use Rattle.definitions.specs.Reading.{Read, refused, value, ◌>>=◌, require, read_field, read_fields, judge_line_end, read_line, line_bytes, judge_end, question_of, question_size, judge_asked, read_question}
use Rattle.definitions.specs.Written.{FieldWriting}
use Rattle.definitions.proofs.Laws.FieldKinds.{Mirrors, plain_fields}

-- not refused by the number k
abbrev pub Never : {A : Type 0} → ℕ → Read A → Type 0
Never k r = r ≡ refused k → ⊥

-- ---- one part behind the other

module _ {A B : Type 0} (k : ℕ) where
  -- the first never is: it has been read
  pub past : (r : Read A) (f : A → Read B) → Never k r → ◌>>=◌ r f ≡ refused k → (a : A) × (r ≡ value a) × (f a ≡ refused k)
  past (refused j) f n e = absurd (n cc)
  past (value a) f n e = (a, refl, e)

  -- the second never is
  pub upto : (r : Read A) (f : A → Read B) → ((a : A) → Never k (f a)) → ◌>>=◌ r f ≡ refused k → r ≡ refused k
  upto (refused j) f n e = cc
  upto (value a) f n e = absurd (n a e)

  pub either : (r : Read A) (f : A → Read B) → ◌>>=◌ r f ≡ refused k → (r ≡ refused k) ⊎ ((a : A) × (r ≡ value a) × (f a ≡ refused k))
  either (refused j) f e = inl cc
  either (value a) f e = inr (a, refl, e)

  -- neither is
  pub then_never : (r : Read A) (f : A → Read B) → Never k r → ((a : A) → Never k (f a)) → Never k (◌>>=◌ r f)
  then_never (refused j) f n m e = n cc
  then_never (value a) f n m e = m a e

pub value_never : {A : Type 0} (k : ℕ) (a : A) → Never k (value a)
value_never k a e = let z : ◌≡◌ {A = ℕ} 0 1 = cc in omega arith

-- ---- causes

pub require_is : (k j : ℕ) → require j ≡ refused k → j ≡ k
require_is k zero e = absurd (value_never k tt e)
require_is k (suc j) e = cc

-- a cause of another number
pub cause_never : (k : ℕ) (b : Bool) (j : ℕ) → j ≢ k → Never k (require (cond b 0 j))
cause_never k true j h e = value_never k tt e
cause_never k false j h e = h (require_is k j e)

-- ---- fields and lines

module _ {says : List ℕ → FieldAnswer} {writes : FieldWriting} {Fits : ℕ → Type 0} (kind : Mirrors says writes Fits) (k : ℕ) (h : 3 < k) where
  bytes_never : (bytes : List ℕ) → (says bytes).number ≢ k
  bytes_never bytes e = ⊎_elim (λ (z : (says bytes).number ≡ 0). omega arith) (λ (z : (says bytes).number ≡ 3). omega arith) (kind.cause bytes)

  number_never : (text : List ℕ) (at : ℕ) → (six_at says text at).number ≢ k
  unfolding six_at
  number_never text at e = go (truth (leb (at + field_bytes) (length text)))
    where
      go : Truth (leb (at + field_bytes) (length text)) → ⊥
      go (holds t) = bytes_never (take field_bytes (drop at text)) (simp t at e)
      go (fails t) = let z : 3 ≡ k = simp t at e in omega arith

  pub field_never : (text : List ℕ) (at : ℕ) → Never k (read_field (six_at says) text at)
  unfolding read_field
  field_never text at =
      then_never k (require (six_at says text at).number) _ (λ e. number_never text at (require_is k (six_at says text at).number e)) (λ _. value_never k (six_at says text at).value)

  fields_never : (text : List ℕ) (at m : ℕ) → Never k (read_fields (six_at says) text at m)
  unfolding read_fields
  fields_never text at zero = value_never k []
  fields_never text at (suc m) =
      then_never k (read_field (six_at says) text at) _ (field_never text at)
      (λ x. then_never k (read_fields (six_at says) text (at + field_bytes) m) _ (fields_never text (at + field_bytes) m) (λ xs. value_never k (x ∷ xs)))

  pub line_never : (text : List ℕ) (at m : ℕ) → Never k (read_line (six_at says) text at m)
  unfolding read_line judge_line_end
  line_never text at m =
      then_never k (read_fields (six_at says) text at m) _ (fields_never text at m)
      (λ xs. then_never k (require (judge_line_end text (at + field_bytes * m))) _ (cause_never k (eqb (get_or text (at + field_bytes * m) 0) line_end) 3 (λ z. omega arith)) (λ _. value_never k xs))

-- ---- the question line

asked_never : (k n : ℕ) (target : Option ℕ) → k ≢ 12 → Never k (require (judge_asked n target))
unfolding judge_asked judge_target
asked_never k n none h = value_never k tt
asked_never k n (some target) h = cause_never k (within n target) 12 (λ z. h (sym z))

pub question_never : (k : ℕ) → 3 < k → k ≢ 8 → k ≢ 12 → (text : List ℕ) (n at : ℕ) → Never k (read_question text n at)
unfolding read_question judge_source judge_end
question_never k h eight twelve text n at =
    let size = question_size text at in
    then_never k (read_line field_at text at size) _ (line_never plain_fields k h text at size)
    (λ fields. then_never k (require (judge_source n (question_of fields).source)) _ (cause_never k (within n (question_of fields).source) 8 (λ z. eight (sym z)))
    (λ _. then_never k (require (judge_asked n (question_of fields).target)) _ (asked_never k n (question_of fields).target twelve)
    (λ _. then_never k (require (judge_end text (at + line_bytes size))) _ (cause_never k (eqb (length text) (at + line_bytes size)) 3 (λ z. omega arith)) (λ _. value_never k (question_of fields)))))
