-- Groups of `width` numbers, one behind the other from place `start` on.
--   group_ends                         a group ends before a later one begins
--   sets_before sets_at sets_behind    what is read after numbers are stored from a place on
--   sets_more                          one number more is stored
--   stored_here stored_other           what is read from the group that is stored, and from another one
--   stored_behind                      what is read behind the numbers that are stored, in any group
--   group_behind                       behind a group the others stand one further
use Rattle.std.specs.Prelude.{◌≡◌, refl, List, [], ◌∷◌, ◌++◌, ◌≢◌, ◌⊎◌, ℕ, zero, suc, ◌+◌, ◌*◌, ◌≤◌, ◌<◌, length, get_or, set, take}
use Rattle.std.proofs.Common.{◌∙◌, ⊎_elim, inl, inr, mul-le-mul, mul-suc, add-zero, add-one, arith, length-set, take-suc, length-take-le, get_or-append-add, get_or-set_same, get_or-set_other}
use Rattle.std.proofs.lemmas.List.Edits.{sets}
use Rattle.logic.specs.Tests.{split_at}
use Rattle.preparation.specs.Numbers.{sets_append}

pub group_ends : (width j k : ℕ) → j < k → width * j + width ≤ width * k
group_ends width j k l = omega (arith, mul-suc width j, mul-le-mul {n₁ = width} {m₁ = suc j} {n₂ = width} {m₂ = k} (omega arith) l)

pub sets_before : (l xs : List ℕ) (a i : ℕ) → i < a → get_or (sets l a xs) i 0 ≡ get_or l i 0
sets_before l [] a i h = refl
sets_before l (x ∷ xs) a i h =
    let n : i ≢ a = omega arith in
    sets_before (set l a x) xs (suc a) i (omega arith) ∙ get_or-set_other l a i x 0 n

sets_behind : (l xs : List ℕ) (a i : ℕ) → a + length xs ≤ i → get_or (sets l a xs) i 0 ≡ get_or l i 0
sets_behind l [] a i h = refl
sets_behind l (x ∷ xs) a i h =
    let n : i ≢ a = omega arith in
    sets_behind (set l a x) xs (suc a) i (omega arith) ∙ get_or-set_other l a i x 0 n

sets_at : (l xs : List ℕ) (a i : ℕ) → i < length xs → a + length xs ≤ length l → get_or (sets l a xs) (a + i) 0 ≡ get_or xs i 0
sets_at l [] a i h r = absurd (omega arith)
sets_at l (x ∷ xs) a zero h r = rw add-zero (sets_before (set l a x) xs (suc a) a (omega arith) ∙ get_or-set_same l a x 0 (omega arith))
sets_at l (x ∷ xs) a (suc i) h r =
    let e : a + suc i ≡ suc a + i = omega arith in
    rw e (sets_at (set l a x) xs (suc a) i (omega arith) (simp length-set (omega arith)))

pub sets_more : (l xs : List ℕ) (a i : ℕ) → i < length xs → set (sets l a (take i xs)) (a + i) (get_or xs i 0) ≡ sets l a (take (i + 1) xs)
sets_more l xs a i h = rw (add-one, take-suc xs i 0 h, sets_append (take i xs) (get_or xs i 0 ∷ []) l a, length-take-le i xs (omega arith))

module _ (start width : ℕ) (l xs : List ℕ) (k : ℕ) (fits : length xs ≤ width) where
  pub stored_here : (i : ℕ) → i < length xs → start + width * k + width ≤ length l → get_or (sets l (start + width * k) xs) (start + width * k + i) 0 ≡ get_or xs i 0
  stored_here i h r = sets_at l xs (start + width * k) i h (omega arith)

  pub stored_other : (j i : ℕ) → (j < k) ⊎ (k < j) → i < width → get_or (sets l (start + width * k) xs) (start + width * j + i) 0 ≡ get_or l (start + width * j + i) 0
  stored_other j i o h = ⊎_elim
      (λ (m : j < k). sets_before l xs (start + width * k) (start + width * j + i) (omega (arith, group_ends width j k m)))
      (λ (m : k < j). sets_behind l xs (start + width * k) (start + width * j + i) (omega (arith, group_ends width k j m)))
      o

  -- a number of a group that stands behind those that are stored, in any group
  pub stored_behind : (j i : ℕ) → length xs ≤ i → i < width → get_or (sets l (start + width * k) xs) (start + width * j + i) 0 ≡ get_or l (start + width * j + i) 0
  stored_behind j i h r = ⊎_elim
      (λ (m : j < k). stored_other j i (inl m) r)
      (λ (m : k ≤ j). ⊎_elim
      (λ (n : k < j). stored_other j i (inr n) r)
      (λ (n : j ≤ k). let z : j ≡ k = omega arith in rw z (sets_behind l xs (start + width * k) (start + width * k + i) (omega arith)))
      (split_at k j))
      (split_at j k)

pub group_behind : (width : ℕ) (xs ys : List ℕ) (j i : ℕ) → length xs ≡ width → get_or (xs ++ ys) (width * suc j + i) 0 ≡ get_or ys (width * j + i) 0
group_behind width xs ys j i e =
    let n : width * suc j + i ≡ length xs + (width * j + i) = omega (arith, mul-suc width j) in
    rw n (get_or-append-add xs ys (width * j + i) 0)
