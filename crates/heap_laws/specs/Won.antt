-- The columns that a new row wins.
--   won               the row has a path there, and its sum is strictly below the least sum of the column
--   Convex            columns that lie together, but for what is left out
--   Range SomeRange   the columns from a first one up to an end that are not left out
use Rattle.std.specs.Prelude.{◌≡◌, Bool, true, false, cond, List, ℕ, pred, ◌≤◌, ◌<◌}
use Rattle.std.proofs.Math.Dec.{eqb}
use Rattle.definitions.specs.Limits.{sum, no_path}
use Rattle.definitions.specs.Network.{Rectangle}
use Rattle.definitions.specs.Model.{Activation, parent}
use Rattle.heap_laws.specs.Lesser.{beats}

-- a row r with the label v, against the activated rows
unfoldable pub won : Rectangle → List Activation → ℕ → ℕ → ℕ → Bool
won e xs r v c = cond (eqb (e r c) no_path) false (beats (sum v (e r c)) (parent e xs c))

-- a test that holds wherever it holds before and after, below n, but for what is left out
abbrev pub Convex : (ℕ → Bool) → (ℕ → Bool) → ℕ → Type 0
Convex p out n = (a c b : ℕ) → a ≤ c → c ≤ b → b < n → out c ≡ false → p a ≡ true → p b ≡ true → p c ≡ true

-- the test holds of the numbers from `first` up to `end` that are not left out, and of no other below n
pub record Range (p out : ℕ → Bool) (n first end : ℕ) : Type 0 where
  pub ordered : first ≤ end
  pub inside : end ≤ n
  pub within : (c : ℕ) → first ≤ c → c < end → out c ≡ false → p c ≡ true
  pub before : (c : ℕ) → c < first → p c ≡ false
  pub after : (c : ℕ) → end ≤ c → c < n → p c ≡ false

-- both ends are of it
abbrev pub SomeRange : (ℕ → Bool) → (ℕ → Bool) → ℕ → Type 0
SomeRange p out n = (first : ℕ) × (end : ℕ) × Range p out n first end × (first < end → (p first ≡ true) × (p (pred end) ≡ true))
