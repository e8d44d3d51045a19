-- How many intervals of one list are not in another.
--   is_kept_append                          an interval of two lists
--   count_new_append                        of two lists
--   count_new_tail count_new_same count_new_new   none of a part, none of the same, all where none was there
--   runs_distinct                          runs stand each once
--   balance                                inserted and kept before = removed and kept after
use Rattle.std.specs.Prelude.{◌≡◌, refl, true, false, cond, ◌||◌, List, [], ◌∷◌, ◌++◌, ℕ, suc, ◌+◌, length}
use Rattle.std.proofs.Common.{sym, ap, append_assoc, zero-add, arith}
use Rattle.std.proofs.Math.Bool.{or-true, or_assoc}
use Rattle.definitions.specs.Lists.{Every}
use Rattle.definitions.specs.Best.{Best}
use Rattle.definitions.specs.Intervals.{Interval, runs, same_interval, is_kept, Distinct, count_new}
use Rattle.definitions.proofs.Laws.OrderLaws.{rising_firsts, firsts_distinct}
use Rattle.definitions.proofs.Laws.RunProofs.{same_interval_refl, same_interval_is, runs_rising}
use Rattle.logic.specs.Tests.{clash, Truth, holds, fails, truth}

same_interval_sym : (v u : Interval) → same_interval v u ≡ false → same_interval u v ≡ false
same_interval_sym v u h = go (truth (same_interval u v))
  where
    go : Truth (same_interval u v) → same_interval u v ≡ false
    go (holds t) = absurd (clash (same_interval_refl v) (rw (same_interval_is u v t) at h))
    go (fails t) = t

pub is_kept_append : (v : Interval) (us vs : List Interval) → is_kept v (us ++ vs) ≡ (is_kept v us || is_kept v vs)
unfolding is_kept
is_kept_append v [] vs = refl
is_kept_append v (u ∷ us) vs = rw (is_kept_append v us vs) (sym (or_assoc (same_interval v u) (is_kept v us) (is_kept v vs)))

pub count_new_append : (xs ys us : List Interval) → count_new (xs ++ ys) us ≡ count_new xs us + count_new ys us
unfolding count_new
count_new_append [] ys us = rw zero-add
count_new_append (x ∷ xs) ys us = go (truth (is_kept x us)) (count_new_append xs ys us)
  where
    go : Truth (is_kept x us) → count_new (xs ++ ys) us ≡ count_new xs us + count_new ys us → count_new (x ∷ (xs ++ ys)) us ≡ count_new (x ∷ xs) us + count_new ys us
    go (holds t) q = simp t q
    go (fails t) q = simp t (omega arith)

pub count_new_tail : (xs ys : List Interval) → count_new ys (xs ++ ys) ≡ 0
unfolding count_new is_kept
count_new_tail xs [] = refl
count_new_tail xs (y ∷ ys) =
    let t : is_kept y (xs ++ y ∷ ys) ≡ true = simp (is_kept_append, same_interval_refl, or-true) in
    simp t (rw (← append_assoc xs (y ∷ []) ys) (count_new_tail (xs ++ y ∷ []) ys))

pub count_new_same : (xs : List Interval) → count_new xs xs ≡ 0
count_new_same xs = count_new_tail [] xs

-- none of them was there
pub count_new_new : (xs us : List Interval) → Every (λ x. is_kept x us ≡ false) xs → count_new xs us ≡ length xs
unfolding count_new
count_new_new [] us h = refl
count_new_new (x ∷ xs) us h = simp h.0 (ap suc (count_new_new xs us h.1))

-- ---- each once

pub runs_distinct : (w : ℕ → Best) (c n : ℕ) → Distinct (runs w c n)
runs_distinct w c n = firsts_distinct (runs w c n) (rising_firsts c (runs w c n) (runs_rising w c n))

-- ---- the balance of two lists

one_more : (us : List Interval) (x : Interval) (xs : List Interval) → Distinct us → is_kept x xs ≡ false
    → count_new us (x ∷ xs) + cond (is_kept x us) 1 0 ≡ count_new us xs
unfolding count_new is_kept
one_more [] x xs d h = refl
one_more (u ∷ us) x xs d h = go (truth (same_interval u x)) (truth (is_kept u xs)) (one_more us x xs d.1 h)
  where
    go : Truth (same_interval u x) → Truth (is_kept u xs) → count_new us (x ∷ xs) + cond (is_kept x us) 1 0 ≡ count_new us xs
        → count_new (u ∷ us) (x ∷ xs) + cond (is_kept x (u ∷ us)) 1 0 ≡ count_new (u ∷ us) xs
    go (holds t) k ih =
        let q : u ≡ x = same_interval_is u x t in
        let xu : same_interval x u ≡ true = rw q (same_interval_refl x) in
        let no-x : is_kept x us ≡ false = rw q at d.0 in
        let no-u : is_kept u xs ≡ false = rw q h in
        simp (t, xu, no-u) (omega (arith, simp no-x at ih))
    go (fails t) (holds k) ih = simp (t, same_interval_sym, k) ih
    go (fails t) (fails k) ih = simp (t, same_interval_sym, k) (omega arith)

count_new_nil : (us : List Interval) → count_new us [] ≡ length us
unfolding count_new is_kept
count_new_nil [] = refl
count_new_nil (u ∷ us) = ap suc (count_new_nil us)

pub balance : (xs us : List Interval) → Distinct xs → Distinct us → count_new xs us + length us ≡ count_new us xs + length xs
unfolding count_new
balance [] us d f = omega (arith, count_new_nil us)
balance (x ∷ xs) us d f = go (truth (is_kept x us)) (one_more us x xs f d.0) (balance xs us d.1 f)
  where
    go : Truth (is_kept x us) → count_new us (x ∷ xs) + cond (is_kept x us) 1 0 ≡ count_new us xs → count_new xs us + length us ≡ count_new us xs + length xs
        → count_new (x ∷ xs) us + length us ≡ count_new us (x ∷ xs) + suc (length xs)
    go (holds t) o ih = simp t (omega (arith, simp t at o))
    go (fails t) o ih = simp t (omega (arith, simp t at o))
