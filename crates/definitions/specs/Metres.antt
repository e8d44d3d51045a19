-- Document 02, request 7: no path beside the numbers of metres, how the two add up and how they compare.
--   IsNumber is_length                 a length that is a number; a length that a table may hold
--   Metres metres_of plus at_most       sums of lengths, as the check adds and compares them
use Rattle.std.specs.Prelude.{Bool, true, false, cond, ◌||◌, ◌≢◌, ℕ, ◌+◌, eqb, leb}
use Rattle.definitions.specs.Limits.{max_length, no_path}

-- a length of a table that is a number of metres
abbrev pub IsNumber : ℕ → Type 0
IsNumber l = l ≢ no_path

-- what a table may hold: a number up to the limit, or no path
unfoldable pub is_length : ℕ → Bool
is_length l = leb l max_length || eqb l no_path

-- a number of metres, or no path
pub data Metres : Type 0 where
  number : ℕ → Metres
  no_path_lem : Metres

-- what a length says
unfoldable pub metres_of : ℕ → Metres
metres_of l = cond (eqb l no_path) no_path_lem (number l)

-- no path plus anything is no path
unfoldable pub plus : Metres → Metres → Metres
plus (number a) (number b) = number (a + b)
plus (number a) no_path_lem = no_path_lem
plus no_path_lem y = no_path_lem

-- every number is below no path, and no path ≤ no path holds
unfoldable pub at_most : Metres → Metres → Bool
at_most (number a) (number b) = leb a b
at_most no_path_lem (number b) = false
at_most x no_path_lem = true
