-- A stretch of columns that one parent has, but for some.
--   count_from   how many of a stretch a test holds of
--   Alone        a column that the parent has, or that is counted
use Rattle.std.specs.Prelude.{◌≡◌, Bool, true}
use Rattle.std.proofs.Math.Bool.{cond}
use Prim.Native.Nat.{ℕ, zero, suc, ◌+◌}
use Rattle.definitions.specs.Best.{Best, nobody, by}

-- of the n numbers from c on
unfoldable pub count_from : (ℕ → Bool) → ℕ → ℕ → ℕ
count_from p c zero = 0
count_from p c (suc n) = cond (p c) 1 0 + count_from p (suc c) n

-- the parent is r, or nobody and the column is counted
abbrev pub Alone : ℕ → Bool → Best → Type 0
Alone r b nobody = b ≡ true
Alone r b (by p s) = p ≡ r
