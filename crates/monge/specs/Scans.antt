-- What a scan over neighbours asks of its two closures.
--   TestsBelow      the first answers p of each place below n
--   ComparesBelow   the second answers ok of each two places below n, the earlier one first
use Rattle.std.specs.Prelude.{◌≡◌, Bool, ℕ, ◌<◌}

abbrev pub TestsBelow : (ℕ → Bool → Type 0) → ℕ → (ℕ → Bool) → Type 0
TestsBelow post n p = (l : ℕ) (b : Bool) → l < n → post l b → b ≡ p l

abbrev pub ComparesBelow : (ℕ → ℕ → Bool → Type 0) → ℕ → (ℕ → ℕ → Bool) → Type 0
ComparesBelow post n ok = (k l : ℕ) (b : Bool) → k < l → l < n → post k l b → b ≡ ok k l
