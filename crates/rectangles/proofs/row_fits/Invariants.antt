-- `row_fits`: a table may hold the lengths passed.
use mathlib.Core.Path.{◌≡◌}
use mathlib.Core.Bool.{Bool, true}
use mathlib.Core.List.{List}
use Prim.Native.Nat.{ℕ}
use Rattle.definitions.specs.Lists.{all}
use Rattle.definitions.specs.Metres.{is_length}
use Rattle.definitions.specs.Entries.{rectangle_of}
use Rattle.rectangles.proofs.row_fits.Given as goal

abbrev pub fits : List ℕ → ℕ → ℕ → Bool
fits lengths i k = is_length (rectangle_of lengths i k)

abbrev pub invariant-loop-k : goal.invariant-loop-k
invariant-loop-k l = all (fits l.lengths l.i) l.k ≡ true
