-- Document 01, "Text layout": fields of six columns, which are read, and of nine, which are written.
--   FieldAnswer field_of length_of            six bytes: 0 and a number, or no field (3); a length may be no path: document 02, request 7
--   six_at field_at length_at                  the same at a place of a text
--   field_answer length_answer                the number and the value of each case of the program's answers
--   decimal right_justified nine_columns      a number in digits, in a field that is written
use Rattle.std.specs.Prelude.{Bool, true, false, cond, not, ◌&&◌, ◌||◌, List, [], ◌∷◌, ◌++◌, ℕ, zero, suc, ◌+◌, ◌-◌, ◌*◌, ◌/◌, ◌%◌, eqb, leb, ltb, length, take, drop, replicate, Option, Some, None}
use Rattle.definitions.specs.declared.Length.{Length}
use Rattle.definitions.specs.declared.Length.TheVariants.{Number, NoPath, Malformed}
use Rattle.definitions.specs.Limits.{column_bytes, no_path}
use Rattle.definitions.specs.Lists.{every}

-- the bytes of a blank, of a line's end, of `0` and `9`, and of `-`
abbrev pub blank : ℕ
blank = 32

abbrev pub line_end : ℕ
line_end = 10

abbrev pub zero_digit : ℕ
zero_digit = 48

abbrev pub nine_digit : ℕ
nine_digit = 57

abbrev pub dash : ℕ
dash = 45

-- ---- six columns

-- the bytes of a field that is read
abbrev pub field_bytes : ℕ
field_bytes = 6

unfoldable pub is_digit : ℕ → Bool
is_digit b = leb zero_digit b && leb b nine_digit

-- what stands after the blanks at the front
unfoldable pub skip_blanks : List ℕ → List ℕ
skip_blanks [] = []
skip_blanks (b ∷ bs) = cond (eqb b blank) (skip_blanks bs) (b ∷ bs)

-- one digit or more, and no `0` in front of others
unfoldable pub is_numeral : List ℕ → Bool
is_numeral [] = false
is_numeral (d ∷ ds) = every is_digit (d ∷ ds) && (not (eqb d zero_digit) || eqb (length ds) 0)

-- the number that digits say after those that said x
unfoldable pub numeral_value : ℕ → List ℕ → ℕ
numeral_value x [] = x
numeral_value x (d ∷ ds) = numeral_value (10 * x + (d - zero_digit)) ds

-- what reading a field answers: 0 and its value; or 3 and 0, where no field stands
pub record FieldAnswer : Type 0 where
  pub number : ℕ
  pub value : ℕ

abbrev pub a_field : ℕ → FieldAnswer
a_field x = record { number = 0; value = x }

abbrev pub no_field : FieldAnswer
no_field = record { number = 3; value = 0 }

-- blanks, perhaps none, and then a numeral
unfoldable pub field_of : List ℕ → FieldAnswer
field_of bytes =
    let digits = skip_blanks bytes in
    cond (is_numeral digits) (a_field (numeral_value 0 digits)) no_field

-- `-` alone
unfoldable pub is_dash : List ℕ → Bool
is_dash [] = false
is_dash (b ∷ bs) = eqb b dash && eqb (length bs) 0

-- (02, request 7) A length field: `-` right-justified, which is no path; else a number, like any other field.
unfoldable pub length_of : List ℕ → FieldAnswer
length_of bytes = cond (is_dash (skip_blanks bytes)) (a_field no_path) (field_of bytes)

-- six bytes at a place of the text, read as one or the other; where fewer are left there is no field
unfoldable pub six_at : (List ℕ → FieldAnswer) → List ℕ → ℕ → FieldAnswer
six_at says text at = cond (leb (at + field_bytes) (length text)) (says (take field_bytes (drop at text))) no_field

abbrev pub field_at : List ℕ → ℕ → FieldAnswer
field_at = six_at field_of

abbrev pub length_at : List ℕ → ℕ → FieldAnswer
length_at = six_at length_of

-- the number and the value of each case of the program's answers
abbrev pub field_answer : Option ℕ → FieldAnswer
field_answer (Some x) = a_field x
field_answer None = no_field

abbrev pub length_answer : Length → FieldAnswer
length_answer (Number x) = a_field x
length_answer NoPath = a_field no_path
length_answer Malformed = no_field

-- ---- nine columns

-- the decimal digits of a number, as bytes; `fuel` bounds how many
unfoldable pub digits_of : ℕ → ℕ → List ℕ
digits_of zero x = []
digits_of (suc fuel) x = elim (ltb x 10) [ true ↦ (zero_digit + x) ∷ [] | false ↦ digits_of fuel (x / 10) ++ ((zero_digit + x % 10) ∷ []) ]

-- ten digits hold every number of 32 bits
unfoldable pub decimal : ℕ → List ℕ
decimal x = digits_of 10 x

-- the largest number that nine columns hold
abbrev pub max_column : ℕ
max_column = 999999999

-- blanks before the bytes, up to a size
unfoldable pub right_justified : ℕ → List ℕ → List ℕ
right_justified size bytes = replicate (size - length bytes) blank ++ bytes

-- a number in nine columns, `-` for one that they do not hold
unfoldable pub nine_columns : ℕ → List ℕ
nine_columns x = right_justified column_bytes (cond (leb x max_column) (decimal x) (dash ∷ []))
