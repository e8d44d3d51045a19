-- The earliest of least sum: laws of `lesser`.
--   lesser_nobody lesser_assoc lesser_none   a unit, the order of grouping, and when it is nobody
--   wins loses                     what a later sum changes
--   up_to_le from_lesser up_to_lesser up_to_right   bounds of a best's sum
--   from_is from_each up_to_is beats_is   the three, spelled out
use Rattle.std.specs.Prelude.{◌≡◌, refl, true, false, cond, ℕ, ◌≤◌, ◌<◌, ltb}
use Rattle.std.proofs.Common.{arith, lt-ltb, le-ltb, ltb-true}
use Rattle.definitions.specs.Best.{Best, nobody, by, lesser}
use Rattle.logic.specs.Tests.{clash, Order, less, more, order}
use Rattle.heap_laws.specs.Lesser.{beats, From, UpTo}

pub lesser_nobody : (x : Best) → lesser x nobody ≡ x
unfolding lesser
lesser_nobody nobody = refl
lesser_nobody (by p s) = refl

pub lesser_assoc : (x y z : Best) → lesser (lesser x y) z ≡ lesser x (lesser y z)
unfolding lesser
lesser_assoc nobody y z = refl
lesser_assoc (by p s) nobody z = refl
lesser_assoc (by p s) (by p' s') nobody = lesser_nobody (cond (ltb s' s) (by p' s') (by p s))
lesser_assoc (by p s) (by p' s') (by p'' s'') = go (order s' s) (order s'' s')
  where
    go : Order s' s → Order s'' s' → lesser (lesser (by p s) (by p' s')) (by p'' s'') ≡ lesser (by p s) (lesser (by p' s') (by p'' s''))
    go (less a h) (less b k) = simp (a, b, lt-ltb s'' s (omega arith))
    go (less a h) (more b k) = simp (a, b)
    go (more a h) (less b k) = simp (a, b)
    go (more a h) (more b k) = simp (a, b, le-ltb s'' s (omega arith))

-- nobody of both
pub lesser_none : (x y : Best) → lesser x y ≡ nobody → (x ≡ nobody) × (y ≡ nobody)
unfolding lesser
lesser_none nobody y h = (refl, h)
lesser_none (by p s) nobody h = let z : ◌≡◌ {A = ℕ} 0 1 = cc in absurd (omega arith)
lesser_none (by p s) (by p' s') h = go (order s' s)
  where
    go : Order s' s → (by p s ≡ nobody) × (by p' s' ≡ nobody)
    go (less t _) = let k : by p' s' ≡ nobody = simp t at h in let z : ◌≡◌ {A = ℕ} 0 1 = cc in absurd (omega arith)
    go (more t _) = let k : by p s ≡ nobody = simp t at h in let z : ◌≡◌ {A = ℕ} 0 1 = cc in absurd (omega arith)

-- ---- a sum against a best

pub wins : (x : Best) (p s : ℕ) → beats s x ≡ true → lesser x (by p s) ≡ by p s
unfolding beats lesser
wins nobody p s h = refl
wins (by p' s') p s h = simp h

pub loses : (x : Best) (p s : ℕ) → beats s x ≡ false → lesser x (by p s) ≡ x
unfolding beats lesser
loses nobody p s h = absurd (clash refl h)
loses (by p' s') p s h = simp h

-- ---- bounds of a best's sum

pub up_to_le : (n m : ℕ) (x : Best) → n ≤ m → UpTo n x → UpTo m x
up_to_le n m nobody l h = h
up_to_le n m (by p s) l h = omega arith

pub from_lesser : (n : ℕ) (x y : Best) → From n x → From n y → From n (lesser x y)
unfolding lesser
from_lesser n nobody y h k = k
from_lesser n (by p s) nobody h k = h
from_lesser n (by p s) (by p' s') h k = go (order s' s)
  where
    go : Order s' s → From n (lesser (by p s) (by p' s'))
    go (less a _) = simp a k
    go (more a _) = simp a h

-- either of the two is enough
pub up_to_lesser : (n : ℕ) (x y : Best) → UpTo n x → UpTo n (lesser x y)
unfolding lesser
up_to_lesser n nobody y h = absurd h
up_to_lesser n (by p s) nobody h = h
up_to_lesser n (by p s) (by p' s') h = go (order s' s)
  where
    go : Order s' s → UpTo n (lesser (by p s) (by p' s'))
    go (less a l) = simp a (omega arith)
    go (more a l) = simp a h

pub up_to_right : (n : ℕ) (x y : Best) → UpTo n y → UpTo n (lesser x y)
unfolding lesser
up_to_right n nobody y h = h
up_to_right n (by p s) nobody h = absurd h
up_to_right n (by p s) (by p' s') h = go (order s' s)
  where
    go : Order s' s → UpTo n (lesser (by p s) (by p' s'))
    go (less a l) = simp a h
    go (more a l) = simp a (omega arith)

-- the same, spelled out
pub from_is : (n p s : ℕ) (x : Best) → From n x → x ≡ by p s → n ≤ s
from_is n p s x h q = rw q at h

pub from_each : (n : ℕ) (x : Best) → ((p s : ℕ) → x ≡ by p s → n ≤ s) → From n x
from_each n nobody h = tt
from_each n (by p s) h = h p s refl

pub up_to_is : (n : ℕ) (x : Best) → UpTo n x → (p : ℕ) × (s : ℕ) × (x ≡ by p s) × (s ≤ n)
up_to_is n nobody h = absurd h
up_to_is n (by p s) h = (p, s, refl, h)

pub beats_is : (n p s : ℕ) (x : Best) → beats n x ≡ true → x ≡ by p s → n < s
unfolding beats
beats_is n p s x h q = ltb-true n s (rw q at h)

-- what a best's sum does not pass is not beaten from there
pub up_to_beats : (n m : ℕ) (x : Best) → n ≤ m → UpTo n x → beats m x ≡ false
unfolding beats
up_to_beats n m nobody l h = absurd h
up_to_beats n m (by p s) l h = le-ltb m s (omega arith)
