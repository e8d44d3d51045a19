-- What `least_from` finds among n places from c on: the proofs behind the laws of `least_left` in the file `Model`.
--   Found found_is                the lowest place of least sum, or nobody at any of them
--   least_lowest least_nobody     each case by itself
--   least_from_same                it reads these places only
use Rattle.std.specs.Prelude.{◌≡◌, refl}
use Rattle.std.proofs.Common.{⊎_elim, le_refl, eq-or-lt_of_le, arith}
use Prim.Native.Nat.{ℕ, zero, suc, ◌+◌, ◌≤◌, ◌<◌}
use Rattle.logic.specs.Tests.{Order, less, more, order}
use Rattle.definitions.specs.Best.{Best, nobody, by, lesser, placed, least_from, Lowest}

abbrev pub Found : (ℕ → Best) → ℕ → ℕ → Best → Type 0
Found w c n nobody = (j : ℕ) → c ≤ j → j < c + n → w j ≡ nobody
Found w c n (by k s) = Lowest w c n k s

-- ---- the proof: place c before the n places after it

-- a place has one sum, or none
one_sum : {x : Best} {p s p' t : ℕ} → x ≡ by p s → x ≡ by p' t → s ≡ t
one_sum q r = cc

no_sum : {x : Best} {p t : ℕ} → x ≡ nobody → x ≡ by p t → ⊥
no_sum q r = let z : ◌≡◌ {A = ℕ} 0 1 = cc in omega arith

-- what holds at place c and at the places after it, up to m
with_next : (c m : ℕ) (P : ℕ → Type 0) → P c → ((j : ℕ) → c < j → j < m → P j) → (j : ℕ) → c ≤ j → j < m → P j
with_next c m P here later j a b = ⊎_elim (λ (z : c ≡ j). rw (← z) here) (λ (l : c < j). later j l b) (eq-or-lt_of_le a)

module _ (w : ℕ → Best) (c n : ℕ) where
  -- the places after c keep their lowest where place c has nobody, or a greater sum
  keeps : (k s : ℕ) → ((p t : ℕ) → w c ≡ by p t → s < t) → Lowest w (suc c) n k s → Lowest w c (suc n) k s
  keeps k s above h = record {
    low = omega arith;
    high = omega arith;
    holder = h.holder;
    here = h.here;
    no_less = λ j p t a b. with_next c (c + suc n) (λ i. w i ≡ by p t → s ≤ t) (λ r. omega (arith, above p t r)) (λ i x y r. h.no_less i p t x (omega arith) r) j a b;
    no_lower = λ j p t a b. with_next c k (λ i. w i ≡ by p t → s < t) (above p t) (λ i x y r. h.no_lower i p t x y r) j a b;
  }

  -- place c is the lowest where no place after it has a smaller sum
  first : (p s : ℕ) → w c ≡ by p s → ((j p' t : ℕ) → c < j → j < suc c + n → w j ≡ by p' t → s ≤ t) → Lowest w c (suc n) c s
  first p s q above = record {
    low = le_refl c;
    high = omega arith;
    holder = p;
    here = q;
    no_less = λ j p' t a b. with_next c (c + suc n) (λ i. w i ≡ by p' t → s ≤ t) (λ r. omega (arith, one_sum q r)) (λ i x y r. above i p' t x (omega arith) r) j a b;
    no_lower = λ j p' t a b r. absurd (omega arith);
  }

  found_step : (y : Best) → w c ≡ y → (x : Best) → Found w (suc c) n x → Found w c (suc n) (lesser (placed c y) x)
  unfolding lesser placed
  found_step nobody q nobody h = with_next c (c + suc n) (λ j. w j ≡ nobody) q (λ j x y. h j x (omega arith))
  found_step nobody q (by k s) h = keeps k s (λ p t r. absurd (no_sum q r)) h
  found_step (by p s) q nobody h = first p s q (λ j p' t a b r. absurd (no_sum (h j a b) r))
  found_step (by p s) q (by k s') h = go (order s' s)
    where
      go : Order s' s → Found w c (suc n) (lesser (placed c (by p s)) (by k s'))
      go (less t l) = simp t (keeps k s' (λ p' u r. omega (arith, one_sum q r)) h)
      go (more t l) = simp t (first p s q (λ j p' u a b r. omega (arith, h.no_less j p' u a b r)))

pub found_is : (w : ℕ → Best) (c n : ℕ) → Found w c n (least_from w c n)
unfolding least_from
found_is w c zero = λ j a b. absurd (omega arith)
found_is w c (suc n) = found_step w c n (w c) refl (least_from w (suc c) n) (found_is w (suc c) n)

-- ---- each case by itself

-- what it finds is the lowest place of least sum
pub least_lowest : (w : ℕ → Best) (c n k s : ℕ) → least_from w c n ≡ by k s → Lowest w c n k s
least_lowest w c n k s h = rw h at (found_is w c n)

-- it finds nobody only where nobody is at any of the places
pub least_nobody : (w : ℕ → Best) (n : ℕ) → least_from w 0 n ≡ nobody → (d : ℕ) → d < n → w d ≡ nobody
least_nobody w n h d l = (rw h at (found_is w 0 n)) d (omega arith) (omega arith)

-- ---- the places read

pub least_from_same : (w w' : ℕ → Best) (c n : ℕ) → ((k : ℕ) → c ≤ k → k < c + n → w k ≡ w' k) → least_from w c n ≡ least_from w' c n
unfolding least_from
least_from_same w w' c zero h = refl
least_from_same w w' c (suc n) h = rw (h c (omega arith) (omega arith), least_from_same w w' (suc c) n (λ k a b. h k (omega arith) (omega arith)))
