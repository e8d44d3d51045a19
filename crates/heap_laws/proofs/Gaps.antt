-- A stretch of columns that one parent has, but for some.
--   count_part                   how many of a stretch a test holds of
--   runs_gaps                    at most one interval more than columns without the parent
use Rattle.std.specs.Prelude.{◌≡◌, refl, Bool, List, [], ◌∷◌}
use Rattle.std.proofs.Math.Bool.{cond}
use Prim.Native.Nat.{ℕ, zero, suc, ◌+◌, ◌-◌, ◌≤◌, ◌<◌}
use Rattle.std.proofs.Common.{le_refl, eq-eqb}
use native.Mathlib.Omega.{arith}
use Rattle.std.proofs.Math.ListN.{length}
use Rattle.definitions.specs.Lists.{count}
use Rattle.definitions.specs.Best.{Best, nobody, by}
use Rattle.definitions.specs.Intervals.{Interval, interval, adjoins, joined, prepend, prepend_column, runs}
use Rattle.logic.specs.Tests.{Truth, holds, fails, truth}
use Rattle.heap_laws.specs.Gaps.{count_from, Alone}

-- ---- a part of a count

count_from_lem : (p : ℕ → Bool) (c n : ℕ) → count p c + count_from p c n ≡ count p (c + n)
unfolding count count_from
count_from_lem p c zero = let e : c + 0 ≡ c = omega arith in rw e (omega arith)
count_from_lem p c (suc n) = let e : c + suc n ≡ suc c + n = omega arith in rw e (omega (arith, count_from_lem p (suc c) n))

pub count_part : (p : ℕ → Bool) (a b n : ℕ) → a ≤ b → b ≤ n → count_from p a (b - a) ≤ count p n
count_part p a b n ab bn =
    let x : a + (b - a) ≡ b = omega arith in
    let y : b + (n - b) ≡ n = omega arith in
    let u : count p a + count_from p a (b - a) ≡ count p b = rw x at (count_from_lem p a (b - a)) in
    let v : count p b + count_from p b (n - b) ≡ count p n = rw y at (count_from_lem p b (n - b)) in
    omega arith

-- ---- the intervals of such a stretch

prepend_length : (v : Interval) (us : List Interval) → length (prepend v us) ≤ suc (length us)
unfolding prepend
prepend_length v [] = le_refl 1
prepend_length v (u ∷ us) = go (truth (adjoins v u))
  where
    go : Truth (adjoins v u) → length (prepend v (u ∷ us)) ≤ suc (suc (length us))
    go (holds t) = simp t (omega arith)
    go (fails t) = simp t (le_refl _)

-- a column that goes on in front adds none
prepend_again : (p c : ℕ) (us : List Interval) → length (prepend (interval p c c) (prepend (interval p (suc c) (suc c)) us)) ≡ length (prepend (interval p (suc c) (suc c)) us)
unfolding prepend joined adjoins
prepend_again p c [] = simp (eq-eqb p p refl, eq-eqb (suc c) (suc c) refl)
prepend_again p c (interval p' f l ∷ us) = go (truth (adjoins (interval p (suc c) (suc c)) (interval p' f l)))
  where
    go : Truth (adjoins (interval p (suc c) (suc c)) (interval p' f l))
        → length (prepend (interval p c c) (prepend (interval p (suc c) (suc c)) (interval p' f l ∷ us))) ≡ length (prepend (interval p (suc c) (suc c)) (interval p' f l ∷ us))
    go (holds t) = simp (t, eq-eqb p p refl, eq-eqb (suc c) (suc c) refl)
    go (fails t) = simp (t, eq-eqb p p refl, eq-eqb (suc c) (suc c) refl)

abbrev owned : Best → ℕ
owned nobody = 0
owned (by p s) = 1

module _ (w : ℕ → Best) (r : ℕ) (out : ℕ → Bool) where
  gaps : (c n : ℕ) → ((k : ℕ) → c ≤ k → k < c + n → Alone r (out k) (w k)) → length (runs w c n) ≤ count_from out c n + owned (w c)
  unfolding runs prepend_column count_from
  gaps c zero h = omega arith
  gaps c (suc n) h = go (w c) (h c (omega arith) (omega arith)) n (λ k a b. h k (omega arith) (omega arith)) (gaps (suc c) n (λ k a b. h k (omega arith) (omega arith)))
    where
      one : (x : Best) → owned x ≤ 1
      one nobody = omega arith
      one (by p s) = omega arith

      go : (x : Best) → Alone r (out c) x → (n : ℕ) → ((k : ℕ) → suc c ≤ k → k < suc c + n → Alone r (out k) (w k)) → length (runs w (suc c) n) ≤ count_from out (suc c) n + owned (w (suc c))
          → length (prepend_column c x (runs w (suc c) n)) ≤ cond (out c) 1 0 + count_from out (suc c) n + owned x
      go nobody a n f ih = simp a (omega (arith, one (w (suc c))))
      go (by p s) a zero f ih = unfold prepend in omega arith
      go (by p s) a (suc n) f ih = next (w (suc c)) (f (suc c) (omega arith) (omega arith)) ih
        where
          next : (y : Best) → Alone r (out (suc c)) y → length (prepend_column (suc c) y (runs w (suc (suc c)) n)) ≤ count_from out (suc c) (suc n) + owned y
              → length (prepend (interval p c c) (prepend_column (suc c) y (runs w (suc (suc c)) n))) ≤ cond (out c) 1 0 + count_from out (suc c) (suc n) + 1
          next nobody b k = omega (arith, prepend_length (interval p c c) (runs w (suc (suc c)) n))
          next (by p' s') b k = let z : p ≡ p' = omega arith in rw (z, prepend_again p' c (runs w (suc (suc c)) n)) (omega arith)

  pub runs_gaps : (c n : ℕ) → ((k : ℕ) → c ≤ k → k < c + n → Alone r (out k) (w k)) → length (runs w c n) ≤ count_from out c n + 1
  runs_gaps c n h = go (w c) (gaps c n h)
    where
      go : (x : Best) → length (runs w c n) ≤ count_from out c n + owned x → length (runs w c n) ≤ count_from out c n + 1
      go nobody k = omega arith
      go (by p s) k = k
