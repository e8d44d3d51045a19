-- The bound on the value of a field, stated once: all that is known of its size. The bound itself, `max_field`, stands in the file `Laws/FieldBound` of specs/.
--   digit_bound digit_room   one digit more
--   six_bound field_bound    the value of six bytes, and of a field wherever it stands
use Rattle.std.specs.Prelude.{◌≡◌, true, not, ◌||◌, List, [], ◌∷◌, ℕ, suc, ◌+◌, ◌-◌, ◌*◌, ◌≤◌, ◌<◌, ◌^◌, eqb, leb, length, take, drop}
use Rattle.std.proofs.Math.Nat.{pow-succ', pow-le-pow_right}
use Rattle.std.proofs.Math.Numerals.{unary_clauses}
use Rattle.std.proofs.Common.{arith, length-take}
use Rattle.logic.specs.Tests.{Truth, holds, fails, truth, and_left, and_right}
use Rattle.definitions.specs.Lists.{every}
use Rattle.definitions.specs.Fields.{field_bytes, is_digit, skip_blanks, is_numeral, numeral_value, field_of, six_at, field_at}
use Rattle.definitions.specs.Laws.FieldBound.{max_field}
use Rattle.definitions.proofs.Laws.FieldProofs.{digit_in, length_skip_blanks}

power_bound : (i : ℕ) → i ≤ field_bytes → 10 ^ i ≤ suc max_field
power_bound i h = let few : 10 ^ i ≤ 10 ^ field_bytes = pow-le-pow_right (omega arith) h in omega arith

-- one digit more
pub digit_bound : (i x b : ℕ) → x < 10 ^ i → b ≤ 57 → 10 * x + (b - 48) < 10 ^ suc i
digit_bound i x b h l = rw (pow-succ' 10 i) (omega arith)

-- fewer than six digits have room for one more
pub digit_room : (i x : ℕ) → i < field_bytes → x < 10 ^ i → 10 * x + 9 ≤ max_field
digit_room i x l h = omega (arith, digit_bound i x 57 h (omega arith), power_bound (suc i) l)

value_bound : (bytes : List ℕ) (i x : ℕ) → x < 10 ^ i → every is_digit bytes ≡ true → numeral_value x bytes < 10 ^ (i + length bytes)
unfolding every numeral_value
value_bound [] i x h t = simp unary_clauses h
value_bound (b ∷ bs) i x h t =
    let digit = digit_in b (and_left (is_digit b) (every is_digit bs) t) in
    let z : i + suc (length bs) ≡ suc i + length bs = omega arith in
    rw z (value_bound bs (suc i) (10 * x + (b - 48)) (digit_bound i x b h digit.1) (and_right (is_digit b) (every is_digit bs) t))

numeral_bound : (digits : List ℕ) → length digits ≤ field_bytes → is_numeral digits ≡ true → numeral_value 0 digits ≤ max_field
unfolding is_numeral numeral_value
numeral_bound [] h t = omega arith
numeral_bound (d ∷ ds) h t =
    let digits = and_left (every is_digit (d ∷ ds)) (not (eqb d 48) || eqb (length ds) 0) t in
    omega (arith, value_bound (d ∷ ds) 0 0 (omega arith) digits, power_bound (0 + length (d ∷ ds)) (omega arith))

pub six_bound : (six : List ℕ) → length six ≤ field_bytes → (field_of six).value ≤ max_field
unfolding field_of
six_bound six h = go (truth (is_numeral (skip_blanks six)))
  where
    go : Truth (is_numeral (skip_blanks six)) → (field_of six).value ≤ max_field
    go (holds t) = simp t (numeral_bound (skip_blanks six) (omega (arith, length_skip_blanks six)) t)
    go (fails t) = simp t (omega arith)

pub field_bound : (text : List ℕ) (at : ℕ) → (field_at text at).value ≤ max_field
unfolding six_at
field_bound text at = go (truth (leb (at + field_bytes) (length text)))
  where
    go : Truth (leb (at + field_bytes) (length text)) → (field_at text at).value ≤ max_field
    go (holds t) = simp t (six_bound (take field_bytes (drop at text)) (omega (arith, length-take field_bytes (drop at text))))
    go (fails t) = simp t (omega arith)
