-- The quick check: the inequality of numbers, at neighbouring rows and columns alone. What passes it is Monge, with no path or without; a rectangle of lengths without no path
-- passes it exactly if it is Monge.
--   corners_small corners_le quick_corners_lem quick_all   what it says of two neighbouring rows and columns, and of all
--   quick_is                      what passes it is Monge
--   quick_from                    a Monge rectangle of lengths up to the limit passes it
use Rattle.std.specs.Prelude.{◌≡◌, true, ℕ, zero, suc, pred, ◌+◌, ◌≤◌, ◌<◌, ltb}
use Rattle.std.proofs.Common.{le_refl, arith}
use Rattle.std.proofs.Math.Nat.{suc-lt_of_lt-pred}
use Rattle.std.proofs.Math.Decide.{le_ind}
use borrow.Author.Tests.{leb-true, ltb-true, le-leb, lt-ltb}
use Rattle.definitions.specs.Limits.{max_length, no_path}
use Rattle.definitions.specs.Metres.{IsNumber}
use Rattle.definitions.specs.Network.{Rectangle}
use Rattle.definitions.specs.Monge.{Monge}
use Rattle.definitions.proofs.Laws.Members.{all_at, all_is}
use Rattle.logic.specs.Tests.{and_left, and_right, and_both}
use Rattle.monge_laws.proofs.Inequality.{corners_is, corners_from}
use Rattle.monge_laws.specs.QuickCheck.{quick_corners, is_monge_quick}

module _ (e : Rectangle) where
  pub corners_small : (i k : ℕ) → quick_corners e i k ≡ true → e i k + e (suc i) (suc k) < no_path
  unfolding quick_corners
  corners_small i k t = ltb-true (e i k + e (suc i) (suc k)) no_path (and_left (ltb (e i k + e (suc i) (suc k)) no_path) _ t)

  pub corners_le : (i k : ℕ) → quick_corners e i k ≡ true → e i k + e (suc i) (suc k) ≤ e i (suc k) + e (suc i) k
  unfolding quick_corners
  corners_le i k t = leb-true (e i k + e (suc i) (suc k)) (e i (suc k) + e (suc i) k) (and_right (ltb (e i k + e (suc i) (suc k)) no_path) _ t)

  pub quick_corners_lem : (i k : ℕ) → e i k + e (suc i) (suc k) < no_path → e i k + e (suc i) (suc k) ≤ e i (suc k) + e (suc i) k → quick_corners e i k ≡ true
  unfolding quick_corners
  quick_corners_lem i k h t = and_both _ _ (lt-ltb (e i k + e (suc i) (suc k)) no_path h) (le-leb (e i k + e (suc i) (suc k)) (e i (suc k) + e (suc i) k) t)

  module _ (rows cols : ℕ) where
    pub quick_all : ((i k : ℕ) → suc i < rows → suc k < cols → quick_corners e i k ≡ true) → is_monge_quick e rows cols ≡ true
    unfolding is_monge_quick
    quick_all f = all_is _ (pred rows) (λ i hi. all_is (quick_corners e i) (pred cols) (λ k hk. f i k (suc-lt_of_lt-pred hi) (suc-lt_of_lt-pred hk)))

    -- a Monge rectangle of lengths that are numbers
    pub quick_from : ((i k : ℕ) → i < rows → k < cols → e i k ≤ max_length) → Monge e rows cols → is_monge_quick e rows cols ≡ true
    quick_from short ok = quick_all (λ i k hi hk. four i k hi hk)
      where
        number : (i k : ℕ) → i < rows → k < cols → IsNumber (e i k)
        number i k hi hk q = omega (arith, short i k hi hk)

        four : (i k : ℕ) → suc i < rows → suc k < cols → quick_corners e i k ≡ true
        four i k hi hk =
            let n = corners_is e i (suc i) k (suc k) (ok i (suc i) k (suc k) (omega arith) hi (omega arith) hk) (number i (suc k) (omega arith) hk) (number (suc i) k hi (omega arith)) in
            quick_corners_lem i k (omega (arith, short i k (omega arith) (omega arith), short (suc i) (suc k) hi hk)) n.2

    module _ (given : is_monge_quick e rows cols ≡ true) where
      at : (i k : ℕ) → suc i < rows → suc k < cols → quick_corners e i k ≡ true
      unfolding is_monge_quick
      at i k hi hk = all_at (quick_corners e i) (pred cols) (all_at _ (pred rows) given i (omega arith)) k (omega arith)

      -- neighbouring rows, any two columns
      wide : (i k : ℕ) → suc i < rows → (l : ℕ) → k ≤ l → l < cols → e i k + e (suc i) l ≤ e i l + e (suc i) k
      wide i k hi = le_ind (λ (l : ℕ). l < cols → e i k + e (suc i) l ≤ e i l + e (suc i) k)
          (λ _. le_refl _)
          (λ l _ ih h. omega (arith, ih (omega arith), corners_le i l (at i l hi h)))

      any : (i k l : ℕ) → k ≤ l → l < cols → (j : ℕ) → i ≤ j → j < rows → e i k + e j l ≤ e i l + e j k
      any i k l kl hl = le_ind (λ (j : ℕ). j < rows → e i k + e j l ≤ e i l + e j k)
          (λ _. omega arith)
          (λ j _ ih h. omega (arith, ih (omega arith), wide j k h l kl hl))

      -- an entry with a row and a column behind it, and one with a row and a column before it
      first : (i k : ℕ) → suc i < rows → suc k < cols → IsNumber (e i k)
      first i k hi hk q = omega (arith, corners_small i k (at i k hi hk))

      second : (j l : ℕ) → 0 < j → 0 < l → j < rows → l < cols → IsNumber (e j l)
      second zero l a _ _ _ q = omega arith
      second (suc i) zero _ a _ _ q = omega arith
      second (suc i) (suc k) _ _ hj hl q = omega (arith, corners_small i k (at i k hj hl))

      pub quick_is : Monge e rows cols
      quick_is i j k l ij hj kl hl = corners_from e i j k l (λ _ _.
          (first i k (omega arith) (omega arith), second j l (omega arith) (omega arith) hj hl, any i k l (omega arith) hl j (omega arith) hj))
