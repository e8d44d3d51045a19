-- A number that has room in six columns is read back from its field.
--   digits_value digits_numeral     the digits of a number are a numeral, and say it
--   digits_room                     how many there are
--   skip-justified                  what is right-justified stands after the blanks
--   length_written field_back       six bytes, which say the number
--   field_begins                    the first of them is no line's end
use Rattle.std.specs.Prelude.{◌≡◌, refl, true, List, [], ◌∷◌, ◌++◌, ◌≢◌, ℕ, zero, suc, ◌+◌, ◌-◌, ◌*◌, ◌/◌, ◌%◌, ◌^◌, ◌≤◌, ◌<◌, get_or, length, replicate}
use Rattle.std.proofs.Math.Nat.{pow-succ'}
use Rattle.std.proofs.Common.{arith, le-leb, ne_eqb, length-append}
use Rattle.std.proofs.lemmas.List.{length-replicate}
use Rattle.logic.specs.Tests.{clash, and_left, Order, less, more, order, Equal, equal, differ, equality}
use Rattle.definitions.specs.Lists.{every}
use Rattle.definitions.specs.Fields.{blank, line_end, field_bytes, is_digit, skip_blanks, is_numeral, numeral_value, a_field, field_of, digits_of, decimal, right_justified}
use Rattle.definitions.specs.Written.{written_field}
use Rattle.definitions.proofs.Laws.FieldProofs.{digits_one, digits_more, digit_in}
use Rattle.definitions.specs.Laws.FieldBound.{max_field}

-- ---- the digits of a number

is_digit_lem : (k : ℕ) → k < 10 → is_digit (48 + k) ≡ true
unfolding is_digit
is_digit_lem k h = simp (le-leb 48 (48 + k) (omega arith), le-leb (48 + k) 57 (omega arith))

every_snoc_test : (ds : List ℕ) (d : ℕ) → every is_digit ds ≡ true → is_digit d ≡ true → every is_digit (ds ++ d ∷ []) ≡ true
unfolding every
every_snoc_test [] d h k = rw k
every_snoc_test (x ∷ ds) d h k = rw (and_left (is_digit x) (every is_digit ds) h) (every_snoc_test ds d (rw (and_left (is_digit x) (every is_digit ds) h) at h) k)

value_snoc : (ds : List ℕ) (x d : ℕ) → numeral_value x (ds ++ d ∷ []) ≡ 10 * numeral_value x ds + (d - 48)
unfolding numeral_value
value_snoc [] x d = refl
value_snoc (c ∷ ds) x d = value_snoc ds (10 * x + (c - 48)) d

-- they say it
pub digits_value : (fuel x : ℕ) → x < 10 ^ fuel → numeral_value 0 (digits_of fuel x) ≡ x
unfolding digits_of numeral_value
digits_value zero x h = omega arith
digits_value (suc fuel) x h = go (order x 10) (digits_value fuel (x / 10))
  where
    go : Order x 10 → (x / 10 < 10 ^ fuel → numeral_value 0 (digits_of fuel (x / 10)) ≡ x / 10) → numeral_value 0 (digits_of (suc fuel) x) ≡ x
    go (less t l) ih = rw (digits_one fuel x l) (omega arith)
    go (more t l) ih =
        let z : x / 10 < 10 ^ fuel = omega (arith, pow-succ' 10 fuel) in
        rw (digits_more fuel x l, value_snoc, ih z) (omega arith)

digits_every : (fuel x : ℕ) → every is_digit (digits_of fuel x) ≡ true
unfolding digits_of every
digits_every zero x = refl
digits_every (suc fuel) x = go (order x 10) (digits_every fuel (x / 10))
  where
    go : Order x 10 → every is_digit (digits_of fuel (x / 10)) ≡ true → every is_digit (digits_of (suc fuel) x) ≡ true
    go (less t l) ih = rw (digits_one fuel x l, is_digit_lem x l)
    go (more t l) ih = rw (digits_more fuel x l) (every_snoc_test (digits_of fuel (x / 10)) (48 + x % 10) ih (is_digit_lem (x % 10) (omega arith)))

-- the first of them is not zero
abbrev Leads : List ℕ → Type 0
Leads [] = ⊥
Leads (d ∷ ds) = d ≢ 48

leads_snoc : (ds : List ℕ) (d : ℕ) → Leads ds → Leads (ds ++ d ∷ [])
leads_snoc [] d h = absurd h
leads_snoc (x ∷ ds) d h = h

digits_lead : (fuel x : ℕ) → 0 < x → x < 10 ^ fuel → Leads (digits_of fuel x)
digits_lead zero x l h = absurd (omega arith)
digits_lead (suc fuel) x l h = go (order x 10) (digits_lead fuel (x / 10))
  where
    go : Order x 10 → (0 < x / 10 → x / 10 < 10 ^ fuel → Leads (digits_of fuel (x / 10))) → Leads (digits_of (suc fuel) x)
    go (less t k) ih = rw (digits_one fuel x k) (λ q. omega arith)
    go (more t k) ih = rw (digits_more fuel x k) (leads_snoc (digits_of fuel (x / 10)) (48 + x % 10) (ih (omega arith) (omega (arith, pow-succ' 10 fuel))))

numeral_is : (ds : List ℕ) → every is_digit ds ≡ true → Leads ds → is_numeral ds ≡ true
unfolding is_numeral
numeral_is [] h l = absurd l
numeral_is (d ∷ ds) h l = simp (h, ne_eqb d 48 l)

-- so they are a numeral
pub digits_numeral : (fuel x : ℕ) → x < 10 ^ suc fuel → is_numeral (digits_of (suc fuel) x) ≡ true
unfolding is_numeral every is_digit
digits_numeral fuel x h = go (equality x 0)
  where
    go : Equal x 0 → is_numeral (digits_of (suc fuel) x) ≡ true
    go (equal t q) = rw (q, digits_one fuel 0 (omega arith))
    go (differ t q) = numeral_is (digits_of (suc fuel) x) (digits_every (suc fuel) x) (digits_lead (suc fuel) x (omega arith) h)

-- how many
digits_room : (k fuel x : ℕ) → x < 10 ^ suc k → length (digits_of fuel x) ≤ suc k
unfolding digits_of
digits_room k zero x h = omega arith
digits_room zero (suc fuel) x h = rw (digits_one fuel x (omega arith)) (omega arith)
digits_room (suc k) (suc fuel) x h = go (order x 10) (digits_room k fuel (x / 10))
  where
    go : Order x 10 → (x / 10 < 10 ^ suc k → length (digits_of fuel (x / 10)) ≤ suc k) → length (digits_of (suc fuel) x) ≤ suc (suc k)
    go (less t l) ih = rw (digits_one fuel x l) (omega arith)
    go (more t l) ih = rw (digits_more fuel x l) (simp length-append (omega (arith, ih (omega (arith, pow-succ' 10 (suc k))))))

-- ---- blanks

-- a numeral begins with a digit, and so with no blank
skip_numeral : (ds : List ℕ) → is_numeral ds ≡ true → skip_blanks ds ≡ ds
unfolding is_numeral skip_blanks every
skip_numeral [] h = refl
skip_numeral (d ∷ ds) h =
    let r = digit_in d (and_left (is_digit d) (every is_digit ds) (and_left (every is_digit (d ∷ ds)) _ h)) in
    let q : d ≢ blank = omega arith in
    simp (ne_eqb d blank q)

skip_blanks_lem : (k : ℕ) (ds : List ℕ) → skip_blanks ds ≡ ds → skip_blanks (replicate k blank ++ ds) ≡ ds
unfolding skip_blanks
skip_blanks_lem zero ds h = h
skip_blanks_lem (suc k) ds h = skip_blanks_lem k ds h

-- ---- a field

pub length_written : (x : ℕ) → x ≤ max_field → length (written_field x) ≡ field_bytes
unfolding written_field right_justified decimal
length_written x h = simp (length-append, length-replicate) (omega (arith, digits_room 5 10 x (omega arith)))

pub field_back : (x : ℕ) → x ≤ max_field → field_of (written_field x) ≡ a_field x
unfolding written_field right_justified decimal field_of
field_back x h =
    let numeral : is_numeral (digits_of 10 x) ≡ true = digits_numeral 9 x (omega arith) in
    rw (skip_blanks_lem (field_bytes - length (digits_of 10 x)) (digits_of 10 x) (skip_numeral (digits_of 10 x) numeral), numeral, digits_value 10 x (omega arith))

-- with a blank or a digit
begins : (k : ℕ) (ds rest : List ℕ) → is_numeral ds ≡ true → get_or ((replicate k blank ++ ds) ++ rest) 0 0 ≢ line_end
unfolding is_numeral every
begins zero [] rest h = absurd (clash h refl)
begins zero (d ∷ ds) rest h =
    let r = digit_in d (and_left (is_digit d) (every is_digit ds) (and_left (every is_digit (d ∷ ds)) _ h)) in
    λ q. omega arith
begins (suc k) ds rest h = λ q. omega arith

pub field_begins : (x : ℕ) (rest : List ℕ) → x ≤ max_field → get_or (written_field x ++ rest) 0 0 ≢ line_end
unfolding written_field right_justified decimal
field_begins x rest h = begins (field_bytes - length (digits_of 10 x)) (digits_of 10 x) rest (digits_numeral 9 x (omega arith))
