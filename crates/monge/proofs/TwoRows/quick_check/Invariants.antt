-- `quick_check`: the rows passed agree; the loop ends at the last row, or at the first that does not agree.
use mathlib.Core.Path.{◌≡◌}
use mathlib.Core.Bool.{Bool, true}
use mathlib.Core.List.{List}
use Prim.Native.Nat.{ℕ, ◌+◌, ◌*◌}
use Rattle.definitions.specs.Limits.{row_places}
use Rattle.definitions.specs.Lists.{all}
use Rattle.monge_laws.specs.QuickCheck.{quick_corners}
use Rattle.monge.specs.Matrix.{two_rows}
use Rattle.monge.proofs.TwoRows.quick_check.Given as goal

-- row i of those from above on and of those from below on
abbrev pub agree : List ℕ → ℕ → ℕ → ℕ → ℕ → Bool
agree lengths above below cols i = all (quick_corners (two_rows lengths (above + row_places * i) (below + row_places * i)) 0) cols

abbrev pub invariant-loop-i : goal.invariant-loop-i
invariant-loop-i l = all (agree l.self.lengths.now l.self.above l.self.below l.self.cols) l.i ≡ true
