-- A field has exactly one way to be written: blanks, then the number's decimal digits.
--   digits_one digits_more       digits from the right: one, or the last behind the others
--   decimal_numeral              the digits of what a numeral says are the numeral
--   length_skip_blanks justified  blanks and what stands after them
--   field_written                bytes that say a number are that number, right-justified
use Rattle.std.specs.Prelude.{◌≡◌, refl, true, not, ◌||◌, List, [], ◌∷◌, ◌++◌, ℕ, suc, ◌+◌, ◌-◌, ◌*◌, ◌/◌, ◌%◌, ◌≤◌, ◌<◌, eqb, leb, length, replicate}
use Rattle.std.proofs.Common.{sym, ap, ◌∙◌, subst, append_assoc, append-nil, le_refl, arith, eqb-true, leb-true, lt-ltb, le-ltb}
use Rattle.std.proofs.lemmas.Bool.{eqb-false}
use Rattle.logic.specs.Tests.{clash, and_left, and_right, Truth, holds, fails, truth}
use Rattle.definitions.specs.Lists.{every}
use Rattle.definitions.specs.Fields.{blank, is_digit, skip_blanks, is_numeral, numeral_value, FieldAnswer, a_field, no_field, field_of, digits_of, decimal, right_justified}

-- ---- digits

pub digits_one : (fuel x : ℕ) → x < 10 → digits_of (suc fuel) x ≡ (48 + x) ∷ []
unfolding digits_of
digits_one fuel x h = rw (lt-ltb x 10 h, digits_of)

pub digits_more : (fuel x : ℕ) → 10 ≤ x → digits_of (suc fuel) x ≡ digits_of fuel (x / 10) ++ ((48 + x % 10) ∷ [])
unfolding digits_of
digits_more fuel x h = rw (le-ltb x 10 h, digits_of)

pub digit_in : (b : ℕ) → is_digit b ≡ true → (48 ≤ b) × (b ≤ 57)
unfolding is_digit
digit_in b t = (leb-true 48 b (and_left (leb 48 b) (leb b 57) t), leb-true b 57 (and_right (leb 48 b) (leb b 57) t))

-- one digit more behind those of x, which are not the zero alone
digits_snoc : (fuel x d : ℕ) → 0 < x → 48 ≤ d → d ≤ 57 → digits_of (suc fuel) (10 * x + (d - 48)) ≡ digits_of fuel x ++ (d ∷ [])
digits_snoc fuel x d h l u =
    let y = 10 * x + (d - 48) in
    let a : y / 10 ≡ x = omega arith in
    let b : 48 + y % 10 ≡ d = omega arith in
    digits_more fuel y (omega arith) ∙ rw (a, b)

-- the digits of what ds say after those that said x
digits_after_lem : (ds : List ℕ) (fuel x : ℕ) → 0 < x → every is_digit ds ≡ true → digits_of (length ds + fuel) (numeral_value x ds) ≡ digits_of fuel x ++ ds
unfolding every numeral_value
digits_after_lem [] fuel x h t = let z : 0 + fuel ≡ fuel = omega arith in rw z (sym (append-nil (digits_of fuel x)))
digits_after_lem (d ∷ ds) fuel x h t =
    let r = digit_in d (and_left (is_digit d) (every is_digit ds) t) in
    let z : suc (length ds) + fuel ≡ length ds + suc fuel = omega arith in
    rw z (digits_after_lem ds (suc fuel) (10 * x + (d - 48)) (omega arith) (and_right (is_digit d) (every is_digit ds) t)
    ∙ rw (digits_snoc fuel x d h r.0 r.1) (append_assoc (digits_of fuel x) (d ∷ []) ds))

-- no leading zero, so that the digits of what a numeral says are the numeral
pub decimal_numeral : (ds : List ℕ) → length ds ≤ 10 → is_numeral ds ≡ true → decimal (numeral_value 0 ds) ≡ ds
unfolding decimal is_numeral every numeral_value
decimal_numeral [] l t = absurd (clash t refl)
decimal_numeral (d ∷ []) l t =
    let digits = and_left (every is_digit (d ∷ [])) (not (eqb d 48) || eqb (length {A = ℕ} []) 0) t in
    let r = digit_in d (and_left (is_digit d) true digits) in
    let z : 48 + (10 * 0 + (d - 48)) ≡ d = omega arith in
    digits_one 9 (10 * 0 + (d - 48)) (omega arith) ∙ rw z
decimal_numeral (d ∷ e ∷ es) l t =
    let digits = and_left (every is_digit (d ∷ e ∷ es)) (not (eqb d 48) || eqb (length (e ∷ es)) 0) t in
    let r = digit_in d (and_left (is_digit d) (every is_digit (e ∷ es)) digits) in
    let x = 10 * 0 + (d - 48) in
    let some : 0 < x = go (truth (eqb d 48)) (and_right (every is_digit (d ∷ e ∷ es)) (not (eqb d 48) || eqb (length (e ∷ es)) 0) t) r.0 in
    let z : 10 ≡ length (e ∷ es) + suc (8 - length es) = omega arith in
    let y : 48 + x ≡ d = omega arith in
    subst (λ (k : ℕ). digits_of k (numeral_value x (e ∷ es)) ≡ d ∷ e ∷ es) (sym z)
    (digits_after_lem (e ∷ es) (suc (8 - length es)) x some (and_right (is_digit d) (every is_digit (e ∷ es)) digits) ∙ rw (digits_one (8 - length es) x (omega arith), y))
  where
    go : Truth (eqb d 48) → (not (eqb d 48) || eqb (length (e ∷ es)) 0) ≡ true → 48 ≤ d → 0 < 10 * 0 + (d - 48)
    go (holds s) h k = let bad : eqb (length (e ∷ es)) 0 ≡ true = simp s at h in let y = eqb-true (length (e ∷ es)) 0 bad in absurd (omega arith)
    go (fails s) h k = let y = eqb-false d 48 s in omega arith

-- ---- blanks

pub length_skip_blanks : (bytes : List ℕ) → length (skip_blanks bytes) ≤ length bytes
unfolding skip_blanks
length_skip_blanks [] = le_refl 0
length_skip_blanks (b ∷ bs) = go (truth (eqb b blank)) (length_skip_blanks bs)
  where
    go : Truth (eqb b blank) → length (skip_blanks bs) ≤ length bs → length (skip_blanks (b ∷ bs)) ≤ suc (length bs)
    go (holds t) h = simp t (omega arith)
    go (fails t) h = simp t (le_refl (suc (length bs)))

-- what stands after the blanks, right-justified again
pub justified : (bytes : List ℕ) → bytes ≡ right_justified (length bytes) (skip_blanks bytes)
unfolding skip_blanks right_justified
justified [] = refl
justified (b ∷ bs) = go (truth (eqb b blank)) (justified bs)
  where
    go : Truth (eqb b blank) → bs ≡ replicate (length bs - length (skip_blanks bs)) blank ++ skip_blanks bs
        → (b ∷ bs) ≡ replicate (suc (length bs) - length (skip_blanks (b ∷ bs))) blank ++ skip_blanks (b ∷ bs)
    go (holds t) h =
        let z : suc (length bs) - length (skip_blanks bs) ≡ suc (length bs - length (skip_blanks bs)) = omega (arith, length_skip_blanks bs) in
        simp (t, z) (rw (eqb-true b blank t) (ap (λ (l : List ℕ). blank ∷ l) h))
    go (fails t) h = let z : suc (length bs) - suc (length bs) ≡ 0 = omega arith in simp (t, z)

-- ---- a field

pub field_written : (bytes : List ℕ) (x : ℕ) → length bytes ≤ 10 → field_of bytes ≡ a_field x → bytes ≡ right_justified (length bytes) (decimal x)
unfolding field_of
field_written bytes x l e = go (truth (is_numeral (skip_blanks bytes)))
  where
    go : Truth (is_numeral (skip_blanks bytes)) → bytes ≡ right_justified (length bytes) (decimal x)
    go (holds t) =
        let a : a_field (numeral_value 0 (skip_blanks bytes)) ≡ a_field x = simp t at e in
        let z : numeral_value 0 (skip_blanks bytes) ≡ x = ap (λ (f : FieldAnswer). f.value) a in
        justified bytes ∙ rw (← z, decimal_numeral (skip_blanks bytes) (omega (arith, length_skip_blanks bytes)) t)
    go (fails t) =
        let a : no_field ≡ a_field x = simp t at e in
        let z : ◌≡◌ {A = ℕ} 3 0 = ap (λ (f : FieldAnswer). f.number) a in
        absurd (omega arith)
