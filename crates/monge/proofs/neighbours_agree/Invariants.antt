-- `neighbours_agree`: the places passed agree, and the last open one is carried.
use mathlib.Core.Path.{◌≡◌}
use mathlib.Core.Bool.{Bool, true}
use Prim.Native.Nat.{ℕ, suc, ◌≤◌}
use Rattle.std.proofs.Common.{Option, Some, None}
use Rattle.monge_laws.specs.Neighbours.{last_below, neighbours}
use Rattle.monge.specs.Scans.{TestsBelow, ComparesBelow}
use Rattle.monge.proofs.neighbours_agree.Given as goal

-- a place, plus 1; 0 for none
abbrev pub place : Option ℕ → ℕ
place None = 0
place (Some k) = suc k

abbrev pub invariant-loop-l : goal.invariant-loop-l
invariant-loop-l g l = record {
  before : place l.last ≤ l.l;
  agree : (p : ℕ → Bool) (ok : ℕ → ℕ → Bool) → TestsBelow (goal.P-post g l.is_open) l.count p → ComparesBelow (goal.A-post g l.agree) l.count ok
      → (place l.last ≡ last_below p l.l) × (neighbours p ok l.l ≡ true);
}
