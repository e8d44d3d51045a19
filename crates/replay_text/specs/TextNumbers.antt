-- The numbers of a text: its longest runs of digits, in order. Every other byte only separates.
use Rattle.std.specs.Prelude.{◌≡◌, ℕ, zero, suc, ◌<◌, ◌+◌, ◌^◌, ◌-◌, ◌*◌, List, [], ◌∷◌, Option, Some, None, cond, min, get_or}
use Rattle.std.specs.Char.{is_ascii_digit}
use Rattle.std.specs.Iterator.{YieldsFirst}
use Rattle.replay_text.specs.declared.Numbers.{Numbers}

-- the number with one digit more, or the largest of 32 bits where it does not fit
abbrev pub appended : ℕ → ℕ → ℕ
appended value digit = min (10 * value + (digit - 48)) (2 ^ 32 - 1)

-- the numbers of a text behind the digits of a number, or behind none
abbrev pub numbers_from : Option ℕ → List ℕ → List ℕ
numbers_from None [] = []
numbers_from (Some value) [] = value ∷ []
numbers_from None (b ∷ bs) = cond (is_ascii_digit b) (numbers_from (Some (appended 0 b)) bs) (numbers_from None bs)
numbers_from (Some value) (b ∷ bs) = cond (is_ascii_digit b) (numbers_from (Some (appended value b)) bs) (value ∷ numbers_from None bs)

abbrev pub numbers_of : List ℕ → List ℕ
numbers_of text = numbers_from None text

-- the text behind its first number, behind the digits of it or behind none: nothing, where it has no number
abbrev pub behind_from : Option ℕ → List ℕ → List ℕ
behind_from None [] = []
behind_from (Some value) [] = []
behind_from None (b ∷ bs) = cond (is_ascii_digit b) (behind_from (Some (appended 0 b)) bs) (behind_from None bs)
behind_from (Some value) (b ∷ bs) = cond (is_ascii_digit b) (behind_from (Some (appended value b)) bs) (b ∷ bs)

abbrev pub behind_number : List ℕ → List ℕ
behind_number text = behind_from None text

-- the text behind so many numbers
abbrev pub behind_numbers : ℕ → List ℕ → List ℕ
behind_numbers zero text = text
behind_numbers (suc k) text = behind_number (behind_numbers k text)

-- the bytes and the numbers that are left
abbrev pub text_left : Numbers → List ℕ
text_left numbers = numbers.text.now

abbrev pub numbers_left : Numbers → List ℕ
numbers_left numbers = numbers_of (text_left numbers)

-- what a call of `next` gives: the first number, or none where none is left; the text behind it is left
abbrev pub Yields : Numbers → Option ℕ → Numbers → Type 0
Yields numbers number rest = YieldsFirst numbers_left numbers number rest × (text_left rest ≡ behind_number (text_left numbers))

-- the number at a place among them, 0 where there is none
abbrev pub number_at : List ℕ → ℕ → ℕ
number_at ns k = get_or ns k 0

-- the first columns of the first rows hold the numbers, row by row
abbrev pub HoldsNumbers : List (List ℕ) → ℕ → ℕ → List ℕ → Type 0
HoldsNumbers rectangle rows cols ns =
    (i : ℕ) → i < rows → (j : ℕ) → j < cols → get_or (get_or rectangle i []) j 0 ≡ number_at ns (i * cols + j)

-- every other place of the rows holds what it held
abbrev pub KeepsOthers : List (List ℕ) → List (List ℕ) → ℕ → ℕ → Type 0
KeepsOthers before after rows cols =
    (i j : ℕ) → (i < rows → j < cols → ⊥) → get_or (get_or after i []) j 0 ≡ get_or (get_or before i []) j 0
