-- What the parts of the text reader promise: the value or the cause that they answer, and what they leave, against what the definition reads.
use Rattle.std.specs.Prelude.{◌≡◌, ℕ, ◌+◌, ◌*◌, ◌≤◌, length, Result, Ok, Err}
use mathlib.Core.List.{List, flat_map}
use Rattle.definitions.specs.declared.Cause.{Cause}
use Rattle.definitions.specs.Causes.{number_of}
use Rattle.definitions.specs.Limits.{row_places, table_places}
use Rattle.definitions.specs.Lists.{padded, Every}
use Rattle.definitions.specs.Reading.{Read, refused, value, line_bytes}

-- a value was read, which the answer and what is left show; or the cause that turned the text away
abbrev pub Came : {A B : Type 0} → Read A → Result B Cause → (B → A → Type 0) → Type 0
Came {A} read (Ok b) Shows = (a : A) × (read ≡ value a) × Shows b a
Came read (Err cause) Shows = read ≡ refused (number_of cause)

-- a table of m rows of m lengths, read from a place of the text on
pub record RowsLeft (text : List ℕ) (at m : ℕ) (table : List ℕ) (rows : List (List ℕ)) : Type 0 where
  pub tall : length rows ≡ m
  pub wide : Every (λ row. length row ≡ m) rows
  pub held : table ≡ padded table_places 0 (flat_map (padded row_places 0) rows)
  pub inside : at + m * line_bytes m ≤ length text
