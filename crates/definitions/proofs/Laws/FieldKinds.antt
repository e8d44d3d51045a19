-- Plain fields and length fields: each is read as it is written, and back.
--   Mirrors                      a reading of six bytes, the writing that is its mirror image, and the numbers that have room
--   plain_fields length_fields   of a field, of a length
--   Agrees number_length agrees_at_lem   where a field says a number, a length says the same
--   length_said                  what a length field says, wherever it stands, a table may hold
use Rattle.std.specs.Prelude.{◌≡◌, refl, true, false, List, [], ◌∷◌, ◌≢◌, ◌⊎◌, ℕ, ◌+◌, ◌≤◌, eqb, leb, take, drop}
use Rattle.std.proofs.Common.{sym, ap, ◌∙◌, inl, inr, arith, eqb-true, ne_eqb, le-leb, length-take}
use Rattle.std.proofs.Math.ListN.{length}
use Rattle.logic.specs.Tests.{clash, and_left, and_right, Truth, holds, fails, truth, Equal, equal, differ, equality}
use Rattle.definitions.specs.Limits.{max_length, no_path}
use Rattle.definitions.specs.Lists.{every}
use Rattle.definitions.specs.Metres.{is_length}
use Rattle.definitions.specs.Fields.{dash, field_bytes, is_digit, skip_blanks, is_numeral, FieldAnswer, a_field, no_field, field_of, is_dash, length_of, six_at, field_at, length_at, right_justified}
use Rattle.definitions.specs.Written.{FieldWriting, written_field, written_length}
use Rattle.definitions.proofs.Laws.CauseLaws.{length_short}
use Rattle.definitions.proofs.Laws.FieldProofs.{digit_in, justified, field_written}
use Rattle.definitions.specs.Laws.FieldBound.{max_field}
use Rattle.definitions.proofs.Laws.FieldBound.{six_bound}
use Rattle.definitions.proofs.Laws.FieldBack.{length_written, field_back}

pub record Mirrors (says : List ℕ → FieldAnswer) (writes : FieldWriting) (Fits : ℕ → Type 0) : Type 0 where
  -- six bytes that say a number are that number as it is written, and it has room
  pub written : (six : List ℕ) (x : ℕ) → length six ≡ field_bytes → says six ≡ a_field x → (six ≡ writes x) × Fits x
  -- a number that has room is written in six bytes, and these say it
  pub long : (x : ℕ) → Fits x → length (writes x) ≡ field_bytes
  pub back : (x : ℕ) → Fits x → says (writes x) ≡ a_field x
  -- bytes are a field, or are turned away by 3
  pub cause : (bytes : List ℕ) → ((says bytes).number ≡ 0) ⊎ ((says bytes).number ≡ 3)

-- ---- a field

field_cause : (bytes : List ℕ) → ((field_of bytes).number ≡ 0) ⊎ ((field_of bytes).number ≡ 3)
unfolding field_of
field_cause bytes = go (truth (is_numeral (skip_blanks bytes)))
  where
    go : Truth (is_numeral (skip_blanks bytes)) → ((field_of bytes).number ≡ 0) ⊎ ((field_of bytes).number ≡ 3)
    go (holds t) = inl (rw t)
    go (fails t) = inr (rw t)

-- six bytes say no number that has more than six digits
field_fits : (six : List ℕ) (x : ℕ) → length six ≡ field_bytes → field_of six ≡ a_field x → x ≤ max_field
field_fits six x l e =
    let is : (field_of six).value ≡ x = ap (λ (f : FieldAnswer). f.value) e in
    omega (arith, six_bound six (omega arith))

pub plain_fields : Mirrors field_of written_field (λ x. x ≤ max_field)
unfolding written_field
plain_fields = record {
  written = λ six x l e. (rw l at (field_written six x (omega arith) e), field_fits six x l e);
  long = length_written;
  back = field_back;
  cause = field_cause;
}

-- ---- a length

dash_is : (bytes : List ℕ) → is_dash bytes ≡ true → bytes ≡ dash ∷ []
unfolding is_dash
dash_is [] t = absurd (clash t refl)
dash_is (b ∷ []) t = let z = eqb-true b dash (and_left (eqb b dash) true t) in rw z
dash_is (b ∷ c ∷ bs) t = let z = eqb-true (length (c ∷ bs)) 0 (and_right (eqb b dash) (eqb (length (c ∷ bs)) 0) t) in absurd (omega arith)

-- a numeral begins with a digit
numeral_other : (bytes : List ℕ) → is_numeral bytes ≡ true → is_dash bytes ≡ false
unfolding is_numeral is_dash every
numeral_other [] t = refl
numeral_other (b ∷ bs) t =
    let digit = digit_in b (and_left (is_digit b) (every is_digit bs) (and_left (every is_digit (b ∷ bs)) _ t)) in
    let other : b ≢ dash = λ e. omega (arith, digit) in
    simp (ne_eqb b dash other)

length_cause : (bytes : List ℕ) → ((length_of bytes).number ≡ 0) ⊎ ((length_of bytes).number ≡ 3)
unfolding length_of
length_cause bytes = go (truth (is_dash (skip_blanks bytes)))
  where
    go : Truth (is_dash (skip_blanks bytes)) → ((length_of bytes).number ≡ 0) ⊎ ((length_of bytes).number ≡ 3)
    go (holds t) = inl (rw t)
    go (fails t) = rw t (field_cause bytes)

-- a number is written as in any field
length_number : (l : ℕ) → l ≢ no_path → written_length l ≡ written_field l
unfolding written_length written_field
length_number l h = simp (ne_eqb l no_path h)

number_is : (l : ℕ) → l ≤ max_length → is_length l ≡ true
unfolding is_length
number_is l h = simp (le-leb l max_length h)

-- a reading that says what a field says, where that is a number
abbrev pub Agrees : (List ℕ → FieldAnswer) → Type 0
Agrees says = (bytes : List ℕ) (x : ℕ) → field_of bytes ≡ a_field x → says bytes ≡ a_field x

-- bytes that say a number are no `-`
pub number_length : Agrees length_of
unfolding field_of length_of
number_length bytes x e = go (truth (is_numeral (skip_blanks bytes)))
  where
    go : Truth (is_numeral (skip_blanks bytes)) → length_of bytes ≡ a_field x
    go (holds t) = rw (numeral_other (skip_blanks bytes) t) e
    go (fails t) =
        let a : no_field ≡ a_field x = simp t at e in
        let z : ◌≡◌ {A = ℕ} 3 0 = ap (λ (f : FieldAnswer). f.number) a in
        absurd (omega arith)

pub agrees_at_lem : (says : List ℕ → FieldAnswer) → Agrees says → (text : List ℕ) (at x : ℕ) → field_at text at ≡ a_field x → six_at says text at ≡ a_field x
unfolding six_at
agrees_at_lem says agrees text at x e = go (truth (leb (at + field_bytes) (length text)))
  where
    go : Truth (leb (at + field_bytes) (length text)) → six_at says text at ≡ a_field x
    go (holds t) = rw t (agrees (take field_bytes (drop at text)) x (simp t at e))
    go (fails t) = rw t (simp t at e)

dash_written : (six : List ℕ) → length six ≡ field_bytes → is_dash (skip_blanks six) ≡ true → six ≡ written_length no_path
unfolding written_length
dash_written six l t = rw (dash_is (skip_blanks six) t, l) at (justified six)

length_as_written : (six : List ℕ) (x : ℕ) → length six ≡ field_bytes → length_of six ≡ a_field x → (six ≡ written_length x) × (is_length x ≡ true)
unfolding length_of is_length
length_as_written six x l e = go (truth (is_dash (skip_blanks six)))
  where
    go : Truth (is_dash (skip_blanks six)) → (six ≡ written_length x) × (is_length x ≡ true)
    go (holds t) =
        let a : a_field no_path ≡ a_field x = simp t at e in
        let z : no_path ≡ x = ap (λ (f : FieldAnswer). f.value) a in
        rw (← z) (dash_written six l t, refl)
    go (fails t) =
        let a : field_of six ≡ a_field x = simp t at e in
        let is = plain_fields.written six x l a in
        let other : x ≢ no_path = λ z. omega (arith, is.1) in
        (is.0 ∙ sym (length_number x other), number_is x (omega (arith, is.1)))

module _ (l : ℕ) (is : is_length l ≡ true) where
  length_long : length (written_length l) ≡ field_bytes
  unfolding written_length right_justified
  length_long = go (equality l no_path)
    where
      go : Equal l no_path → length (written_length l) ≡ field_bytes
      go (equal t e) = rw t
      go (differ t e) = rw (length_number l e) (length_written l (omega (arith, length_short l is e)))

  length_back : length_of (written_length l) ≡ a_field l
  unfolding written_length right_justified length_of is_dash skip_blanks
  length_back = go (equality l no_path)
    where
      go : Equal l no_path → length_of (written_length l) ≡ a_field l
      go (equal t e) = rw e
      go (differ t e) = rw (length_number l e) (number_length (written_field l) l (field_back l (omega (arith, length_short l is e))))

pub length_fields : Mirrors length_of written_length (λ l. is_length l ≡ true)
length_fields = record { written = length_as_written; long = length_long; back = length_back; cause = length_cause }

-- no field says 0
pub length_said : (text : List ℕ) (at : ℕ) → is_length (length_at text at).value ≡ true
unfolding six_at length_of is_length
length_said text at = go (truth (leb (at + field_bytes) (length text))) (truth (is_dash (skip_blanks six)))
  where
    six : List ℕ
    six = take field_bytes (drop at text)

    go : Truth (leb (at + field_bytes) (length text)) → Truth (is_dash (skip_blanks six)) → is_length (length_at text at).value ≡ true
    go (fails t) u = simp t
    go (holds t) (holds u) = rw (t, u)
    go (holds t) (fails u) = rw (t, u) (number_is (field_of six).value (omega (arith, six_bound six (omega (arith, length-take field_bytes (drop at text))))))
