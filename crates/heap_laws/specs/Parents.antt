-- The parent of a column.
--   Once                            each row is activated once
--   none row_at label_at sum_at     the i-th activated row, its label, and a column's sum through it
--   Earliest IsParent               the earliest activated row that reaches the least sum
--   row_label                       the label of an activated row
use Rattle.std.specs.Prelude.{◌≡◌, false, cond, List, [], ◌∷◌, ℕ, ◌≤◌, ◌<◌, eqb, get_or, length}
use Rattle.definitions.specs.Limits.{sum}
use Rattle.definitions.specs.Metres.{IsNumber}
use Rattle.definitions.specs.Network.{Rectangle}
use Rattle.definitions.specs.Model.{Activation, is_activated}

abbrev pub Once : List Activation → Type 0
Once [] = Unit {0}
Once (a ∷ xs) = (is_activated a.row xs ≡ false) × Once xs

-- the i-th activated row, and a column's sum through it
abbrev pub none : Activation
none = record { row = 0; label = 0 }

abbrev pub row_at : List Activation → ℕ → ℕ
row_at xs i = (get_or xs i none).row

abbrev pub label_at : List Activation → ℕ → ℕ
label_at xs i = (get_or xs i none).label

abbrev pub sum_at : Rectangle → List Activation → ℕ → ℕ → ℕ
sum_at e xs c i = sum (label_at xs i) (e (row_at xs i) c)

-- the i-th row gives column c its least sum s, and no row activated earlier does
pub record Earliest (e : Rectangle) (xs : List Activation) (c i s : ℕ) : Type 0 where
  pub inside : i < length xs
  pub path : IsNumber (e (row_at xs i) c)
  pub sum_is : s ≡ sum_at e xs c i
  pub no_less : (j : ℕ) → j < length xs → IsNumber (e (row_at xs j) c) → s ≤ sum_at e xs c j
  pub no_earlier : (j : ℕ) → j < i → IsNumber (e (row_at xs j) c) → s < sum_at e xs c j

abbrev pub IsParent : Rectangle → List Activation → ℕ → ℕ → ℕ → Type 0
IsParent e xs c p s = (i : ℕ) × (p ≡ row_at xs i) × Earliest e xs c i s

-- the label of an activated row; 0 for any other
unfoldable pub row_label : ℕ → List Activation → ℕ
row_label r [] = 0
row_label r (a ∷ xs) = cond (eqb r a.row) a.label (row_label r xs)
