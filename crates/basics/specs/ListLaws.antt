-- Laws of lists.
--   all_same all_next all_fails all_not   tests that agree; one number more; one number that fails
--   Every Any                     a property of all members, of some member
--   total-..                      sums
--   Different counted at_most         different numbers, and how many there are below a bound
--   padded-..                     a buffer filled from its front
use Rattle.std.specs.Prelude.{◌≡◌, refl, Bool, true, false, not, ◌||◌, ◌⊎◌, ◌≢◌, eqb, get_or, length, set}
use Rattle.std.proofs.Common.{sym, ap, ◌∙◌, inl, inr, ⊎_elim, eq-or-lt_of_le, add-one, eq-eqb, ne_eqb, length-append}
use Rattle.std.proofs.Math.Bool.{or_assoc, or-false}
use mathlib.Core.List.{List, [], ◌∷◌, ◌++◌, map}
use Prim.Native.Nat.{ℕ, zero, suc, ◌+◌, ◌≤◌, ◌<◌}
use Rattle.std.proofs.Math.Nat.{le_refl}
use native.Mathlib.Omega.{arith}
use Rattle.std.proofs.lemmas.Bool.{not-true}
use Rattle.std.proofs.lemmas.List.{length-replicate}
use Rattle.definitions.specs.Lists.{all, count, Every, mem, different, total, padded}
use Rattle.definitions.proofs.Laws.Members.{all_at}
use Rattle.logic.specs.Tests.{clash, and_both, and_left, and_right, or_left, or_right, Truth, holds, fails, truth, Equal, equal, differ, equality}

-- ---- a computed test

pub all_same : (p q : ℕ → Bool) (n : ℕ) → ((i : ℕ) → i < n → p i ≡ q i) → all p n ≡ all q n
unfolding all
all_same p q zero h = refl
all_same p q (suc n) h = rw (h n (omega arith), all_same p q n (λ i l. h i (omega arith)))

-- one number more
pub all_next : (p : ℕ → Bool) (n : ℕ) → all p n ≡ true → p n ≡ true → all p (n + 1) ≡ true
unfolding all
all_next p n h k = rw (add-one n, h, k)

pub all_fails : (p : ℕ → Bool) (n i : ℕ) → i < n → p i ≡ false → all p n ≡ false
all_fails p n i l h = go (truth (all p n))
  where
    go : Truth (all p n) → all p n ≡ false
    go (holds t) = absurd (clash (all_at p n t i l) h)
    go (fails t) = t

-- a number that fails
pub all_not : (p : ℕ → Bool) (n : ℕ) → all p n ≡ false → (i : ℕ) × (i < n) × (p i ≡ false)
unfolding all
all_not p zero h = absurd (clash refl h)
all_not p (suc n) h = go (truth (p n)) (truth (all p n)) (all_not p n)
  where
    go : Truth (p n) → Truth (all p n) → (all p n ≡ false → (i : ℕ) × (i < n) × (p i ≡ false)) → (i : ℕ) × (i < suc n) × (p i ≡ false)
    go (fails t) _ ih = (n, omega arith, t)
    go (holds t) (holds u) ih = absurd (clash (and_both (all p n) (p n) u t) h)
    go (holds t) (fails u) ih = let x = ih u in (x.0, omega (arith, x.1), x.2)

-- ---- a property of all members

module _ {A : Type 0} where
  pub every_at : (P : A → Type 0) (xs : List A) → Every P xs → (i : ℕ) (d : A) → i < length xs → P (get_or xs i d)
  every_at P [] h i d l = absurd (omega arith)
  every_at P (x ∷ xs) h zero d l = h.0
  every_at P (x ∷ xs) h (suc i) d l = every_at P xs h.1 i d (omega arith)

  pub every_set : (P : A → Type 0) (xs : List A) (i : ℕ) (y : A) → Every P xs → P y → Every P (set xs i y)
  every_set P [] i y h p = tt
  every_set P (x ∷ xs) zero y h p = (p, h.1)
  every_set P (x ∷ xs) (suc i) y h p = (h.0, every_set P xs i y h.1 p)

  pub every_snoc : (P : A → Type 0) (xs : List A) (x : A) → Every P xs → P x → Every P (xs ++ x ∷ [])
  every_snoc P [] x h p = (p, tt)
  every_snoc P (y ∷ xs) x h p = (h.0, every_snoc P xs x h.1 p)

  pub every_append : (P : A → Type 0) (xs ys : List A) → Every P xs → Every P ys → Every P (xs ++ ys)
  every_append P [] ys h k = k
  every_append P (x ∷ xs) ys h k = (h.0, every_append P xs ys h.1 k)

  -- place by place
  pub every_all : (P : A → Type 0) (xs : List A) (d : A) → ((i : ℕ) → i < length xs → P (get_or xs i d)) → Every P xs
  every_all P [] d f = tt
  every_all P (x ∷ xs) d f = (f 0 (omega arith), every_all P xs d (λ i l. f (suc i) (omega arith)))

pub every_map : {A B : Type 0} (P : A → Type 0) (Q : B → Type 0) (f : A → B) (xs : List A) → ((x : A) → P x → Q (f x)) → Every P xs → Every Q (map f xs)
every_map P Q f [] g h = tt
every_map P Q f (x ∷ xs) g h = (g x h.0, every_map P Q f xs g h.1)

pub map_each : {A B : Type 0} (P : A → Type 0) (f g : A → B) (xs : List A) → ((x : A) → P x → f x ≡ g x) → Every P xs → map f xs ≡ map g xs
map_each P f g [] e h = refl
map_each P f g (x ∷ xs) e h = rw (e x h.0, map_each P f g xs e h.1)

pub map_same : {A B : Type 0} (f : A → A) (h : A → B) (xs : List A) → ((x : A) → h (f x) ≡ h x) → map h (map f xs) ≡ map h xs
map_same f h [] e = refl
map_same f h (x ∷ xs) e = rw (e x, map_same f h xs e)

pub map_back : {A B : Type 0} (f : A → B) (h : B → A) (xs : List A) → ((x : A) → h (f x) ≡ x) → map h (map f xs) ≡ xs
map_back f h [] e = refl
map_back f h (x ∷ xs) e = rw (e x, map_back f h xs e)

-- ---- a property of some member

abbrev pub Any : {A : Type 0} → (A → Type 0) → List A → Type 0
Any P [] = ⊥
Any P (x ∷ xs) = P x ⊎ Any P xs

module _ {A : Type 0} where
  pub any_at : (P : A → Type 0) (xs : List A) (i : ℕ) (d : A) → i < length xs → P (get_or xs i d) → Any P xs
  any_at P [] i d l h = absurd (omega arith)
  any_at P (x ∷ xs) zero d l h = inl h
  any_at P (x ∷ xs) (suc i) d l h = inr (any_at P xs i d (omega arith) h)

  -- the place of such a member
  pub record Some (P : A → Type 0) (xs : List A) (d : A) : Type 0 where
    pub number : ℕ
    pub number_in : number < length xs
    pub here : P (get_or xs number d)

  pub at_any : (P : A → Type 0) (xs : List A) (d : A) → Any P xs → Some P xs d
  at_any P [] d h = absurd h
  at_any P (x ∷ xs) d (inl h) = record { number = 0; number_in = omega arith; here = h }
  at_any P (x ∷ xs) d (inr h) = let s = at_any P xs d h in record { number = suc s.number; number_in = omega (arith, s.number_in); here = s.here }

  pub any_left : (P : A → Type 0) (xs ys : List A) → Any P xs → Any P (xs ++ ys)
  any_left P [] ys h = absurd h
  any_left P (x ∷ xs) ys (inl h) = inl h
  any_left P (x ∷ xs) ys (inr h) = inr (any_left P xs ys h)

  pub any_right : (P : A → Type 0) (xs ys : List A) → Any P ys → Any P (xs ++ ys)
  any_right P [] ys h = h
  any_right P (x ∷ xs) ys h = inr (any_right P xs ys h)

  pub any_cases : (P : A → Type 0) (xs ys : List A) → Any P (xs ++ ys) → Any P xs ⊎ Any P ys
  any_cases P [] ys h = inr h
  any_cases P (x ∷ xs) ys (inl h) = inl (inl h)
  any_cases P (x ∷ xs) ys (inr h) = ⊎_elim (λ (k : Any P xs). inl (inr k)) (λ (k : Any P ys). inr k) (any_cases P xs ys h)

pub any_map : {A B : Type 0} (P : A → Type 0) (Q : B → Type 0) (f : A → B) (xs : List A) → ((x : A) → P x → Q (f x)) → Any P xs → Any Q (map f xs)
any_map P Q f [] g h = h
any_map P Q f (x ∷ xs) g (inl h) = inl (g x h)
any_map P Q f (x ∷ xs) g (inr h) = inr (any_map P Q f xs g h)

-- one of the images: with a property of all members
pub any_back : {A B : Type 0} (E : A → Type 0) (Q : B → Type 0) (R : Type 0) (f : A → B) (xs : List A) → ((x : A) → E x → Q (f x) → R) → Every E xs → Any Q (map f xs) → R
any_back E Q R f [] g e h = absurd h
any_back E Q R f (x ∷ xs) g e (inl h) = g x e.0 h
any_back E Q R f (x ∷ xs) g e (inr h) = any_back E Q R f xs g e.1 h

-- ---- sums

module _ {A : Type 0} where
  pub total_set : (f : A → ℕ) (xs : List A) (i : ℕ) (y d : A) → i < length xs → total (map f (set xs i y)) + f (get_or xs i d) ≡ total (map f xs) + f y
  unfolding total
  total_set f [] i y d l = absurd (omega arith)
  total_set f (x ∷ xs) zero y d l = omega arith
  total_set f (x ∷ xs) (suc i) y d l = omega (arith, total_set f xs i y d (omega arith))

  pub total_le : (f g : A → ℕ) (xs : List A) → Every (λ x. f x ≤ g x) xs → total (map f xs) ≤ total (map g xs)
  unfolding total
  total_le f g [] h = le_refl 0
  total_le f g (x ∷ xs) h = omega (arith, total_le f g xs h.1)

  pub total_append : (f : A → ℕ) (xs ys : List A) → total (map f (xs ++ ys)) ≡ total (map f xs) + total (map f ys)
  unfolding total
  total_append f [] ys = omega arith
  total_append f (x ∷ xs) ys = omega (arith, total_append f xs ys)

-- ---- different numbers

abbrev pub Different : List ℕ → Type 0
Different [] = Unit {0}
Different (x ∷ xs) = (mem x xs ≡ false) × Different xs

pub mem_snoc : (k : ℕ) (xs : List ℕ) (c : ℕ) → mem k (xs ++ c ∷ []) ≡ (mem k xs || eqb k c)
unfolding mem
mem_snoc k [] c = or-false (eqb k c)
mem_snoc k (x ∷ xs) c = rw (mem_snoc k xs c) (sym (or_assoc (eqb k x) (mem k xs) (eqb k c)))

pub different_is : (xs : List ℕ) → different xs ≡ true → Different xs
unfolding different
different_is [] h = tt
different_is (x ∷ xs) h = (not-true (mem x xs) (and_left (not (mem x xs)) (different xs) h), different_is xs (and_right (not (mem x xs)) (different xs) h))

pub is_different : (xs : List ℕ) → Different xs → different xs ≡ true
unfolding different
is_different [] h = refl
is_different (x ∷ xs) h = rw (h.0, is_different xs h.1)

pub different_snoc : (xs : List ℕ) (x : ℕ) → Different xs → mem x xs ≡ false → Different (xs ++ x ∷ [])
unfolding mem
different_snoc [] x d h = (refl, tt)
different_snoc (y ∷ xs) x d h =
    let a : eqb x y ≡ false = or_left (eqb x y) (mem x xs) h in
    let b : mem x xs ≡ false = or_right (eqb x y) (mem x xs) h in
    let q : y ≡ x → ⊥ = λ z. clash (eq-eqb x y (sym z)) a in
    (rw (mem_snoc y xs x, d.0, ne_eqb y x q), different_snoc xs x d.1 b)

pub count_le : (p : ℕ → Bool) (n : ℕ) → count p n ≤ n
unfolding count
count_le p zero = le_refl 0
count_le p (suc n) = go (truth (p n)) (count_le p n)
  where
    go : Truth (p n) → count p n ≤ n → count p (suc n) ≤ suc n
    go (holds t) h = simp t (omega arith)
    go (fails t) h = simp t (omega arith)

-- one number more
pub count_none : (p : ℕ → Bool) (n : ℕ) → ((i : ℕ) → i < n → p i ≡ false) → count p n ≡ 0
unfolding count
count_none p zero h = refl
count_none p (suc n) h = simp (h n (omega arith)) (omega (arith, count_none p n (λ i l. h i (omega arith))))

pub count_all : (p : ℕ → Bool) (n : ℕ) → ((i : ℕ) → i < n → p i ≡ true) → count p n ≡ n
unfolding count
count_all p zero h = refl
count_all p (suc n) h = simp (h n (omega arith)) (omega (arith, count_all p n (λ i l. h i (omega arith))))

pub count_some : (p : ℕ → Bool) (n i : ℕ) → i < n → p i ≡ true → 0 < count p n
unfolding count
count_some p zero i l h = absurd (omega arith)
count_some p (suc n) i l h = go (eq-or-lt_of_le l) (λ m. count_some p n i m h)
  where
    go : (suc i ≡ suc n) ⊎ (suc i < suc n) → (i < n → 0 < count p n) → 0 < count p (suc n)
    go (inl q) ih = let z : n ≡ i = omega arith in rw z (simp h (omega arith))
    go (inr m) ih = omega (arith, ih (omega arith))

-- the test holds of each number if it holds of as many
pub count_full : (p : ℕ → Bool) (n : ℕ) → n ≤ count p n → (i : ℕ) → i < n → p i ≡ true
unfolding count
count_full p zero h i l = absurd (omega arith)
count_full p (suc n) h i l = go (truth (p n)) (eq-or-lt_of_le l) (λ m. count_full p n m i)
  where
    go : Truth (p n) → (suc i ≡ suc n) ⊎ (suc i < suc n) → (n ≤ count p n → i < n → p i ≡ true) → p i ≡ true
    go (fails t) _ ih = absurd (omega (arith, simp t at h, count_le p n))
    go (holds t) (inl q) ih = let z : i ≡ n = omega arith in rw z t
    go (holds t) (inr m) ih = ih (omega (arith, simp t at h)) (omega arith)

count_out : (p : ℕ → Bool) (x n : ℕ) → n ≤ x → count (λ y. eqb y x || p y) n ≡ count p n
unfolding count
count_out p x zero l = refl
count_out p x (suc n) l = let q : n ≢ x = omega arith in simp (ne_eqb n x q) (rw (count_out p x n (omega arith)))

pub count_in : (p : ℕ → Bool) (x n : ℕ) → p x ≡ false → x < n → count (λ y. eqb y x || p y) n ≡ suc (count p n)
unfolding count
count_in p x zero h l = absurd (omega arith)
count_in p x (suc n) h l = go (equality n x) (λ k. count_in p x n h k)
  where
    go : Equal n x → (x < n → count (λ y. eqb y x || p y) n ≡ suc (count p n)) → count (λ y. eqb y x || p y) (suc n) ≡ suc (count p (suc n))
    go (equal t q) ih = let f : p n ≡ false = rw q h in simp (t, f) (omega (arith, count_out p x n (omega arith)))
    go (differ t q) ih = simp t (omega (arith, ih (omega arith)))

pub counted : (n : ℕ) (xs : List ℕ) → Different xs → Every (λ x. x < n) xs → count (λ y. mem y xs) n ≡ length xs
unfolding mem count
counted n [] d h = none n
  where
    none : (m : ℕ) → count (λ y. false) m ≡ 0
    none zero = refl
    none (suc m) = omega (arith, none m)
counted n (x ∷ xs) d h = count_in (λ y. mem y xs) x n d.0 h.0 ∙ ap suc (counted n xs d.1 h.1)

pub at_most : (n : ℕ) (xs : List ℕ) → Different xs → Every (λ x. x < n) xs → length xs ≤ n
at_most n xs d h = omega (arith, counted n xs d h, count_le (λ y. mem y xs) n)

pub count_same : (p q : ℕ → Bool) (n : ℕ) → ((i : ℕ) → i < n → p i ≡ q i) → count p n ≡ count q n
unfolding count
count_same p q zero h = refl
count_same p q (suc n) h = rw (h n (omega arith), count_same p q n (λ i l. h i (omega arith)))

-- ---- buffers

pub length_padded : (size filler : ℕ) (xs : List ℕ) → length xs ≤ size → length (padded size filler xs) ≡ size
unfolding padded
length_padded size filler xs h = simp (length-append, length-replicate) (omega arith)
