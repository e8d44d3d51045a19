-- What the functions of the list return.
--   flattened                    the list as numbers
--   places split_of               a split as the code has it, as the definitions have it
--   no_split split_in              an entry of such numbers
--   first_split                   where the splits of a size begin
use Rattle.std.specs.Prelude.{cond, List, [], ◌∷◌, ℕ, pred, ◌+◌, ◌*◌, ◌/◌, ltb, get_or, length}
use Rattle.definitions.specs.Limits.{max_size}
use Rattle.definitions.specs.Lists.{within}
use Rattle.definitions.specs.Blocks.{Split, splits_up_to, all_splits}
use Rattle.splits.specs.declared.Split as code

-- first place, middle and end of each split
unfoldable pub flattened : List Split → List ℕ
flattened [] = []
flattened (c ∷ cs) = c.first ∷ c.middle ∷ c.end ∷ flattened cs

-- a split as the code has it
abbrev pub places : Split → code.Split
places c = record { first = c.first; middle = c.middle; end = c.end }

-- a split as the definitions have it
abbrev pub split_of : code.Split → Split
split_of c = record { first = c.first; middle = c.middle; end = c.end }

abbrev pub no_split : Split
no_split = record { first = 0; middle = 0; end = 0 }

abbrev pub three_at : List ℕ → ℕ → code.Split
three_at l k = record { first = get_or l (3 * k) 0; middle = get_or l (3 * k + 1) 0; end = get_or l (3 * k + 2) 0 }

-- the k-th three of some numbers; past their end each place is 0
unfoldable pub split_in : List ℕ → ℕ → code.Split
split_in l k = cond (ltb k (length l / 3)) (three_at l k) (places no_split)

-- how many splits stand before those of size m; all of them for a size that the list does not have
unfoldable pub first_split : ℕ → ℕ
first_split m = cond (within max_size m) (length (splits_up_to (pred m))) (length all_splits)
