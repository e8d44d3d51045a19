-- A property of all numbers below a bound, and of all members of a list.
--   all_at all_is         of numbers, from a computed test and back
--   every_is every_test   of members, from a computed test and back
--   every_imp             of members, from another property
use Rattle.std.specs.Prelude.{◌≡◌, refl, Bool, true, List, [], ◌∷◌, ◌⊎◌, ℕ, zero, suc, ◌<◌}
use Rattle.std.proofs.Common.{inl, inr, eq-or-lt_of_le, arith}
use Rattle.logic.specs.Tests.{and_left, and_right, and_both}
use Rattle.definitions.specs.Lists.{all, every, Every}

pub all_at : (p : ℕ → Bool) (n : ℕ) → all p n ≡ true → (i : ℕ) → i < n → p i ≡ true
unfolding all
all_at p zero h i l = let z : ◌≡◌ {A = ℕ} 0 1 = omega arith in cc
all_at p (suc n) h i l = go (all_at p n (and_left (all p n) (p n) h) i) (eq-or-lt_of_le l)
  where
    go : (i < n → p i ≡ true) → (suc i ≡ suc n) ⊎ (suc i < suc n) → p i ≡ true
    go f (inl q) = let z : i ≡ n = omega arith in rw z (and_right (all p n) (p n) h)
    go f (inr q) = f (omega arith)

pub all_is : (p : ℕ → Bool) (n : ℕ) → ((i : ℕ) → i < n → p i ≡ true) → all p n ≡ true
unfolding all
all_is p zero f = refl
all_is p (suc n) f = and_both (all p n) (p n) (all_is p n (λ i l. f i (omega arith))) (f n (omega arith))

pub every_is : {A : Type 0} (p : A → Bool) (P : A → Type 0) → ((x : A) → p x ≡ true → P x) → (xs : List A) → every p xs ≡ true → Every P xs
unfolding every
every_is p P f [] h = tt
every_is p P f (x ∷ xs) h = (f x (and_left (p x) (every p xs) h), every_is p P f xs (and_right (p x) (every p xs) h))

pub every_test : {A : Type 0} (p : A → Bool) (P : A → Type 0) → ((x : A) → P x → p x ≡ true) → (xs : List A) → Every P xs → every p xs ≡ true
unfolding every
every_test p P f [] h = refl
every_test p P f (x ∷ xs) h = and_both (p x) (every p xs) (f x h.0) (every_test p P f xs h.1)

pub every_imp : {A : Type 0} (P Q : A → Type 0) (xs : List A) → ((x : A) → P x → Q x) → Every P xs → Every Q xs
every_imp P Q [] f h = tt
every_imp P Q (x ∷ xs) f h = (f x h.0, every_imp P Q xs f h.1)
