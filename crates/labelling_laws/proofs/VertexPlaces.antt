-- Places in lists: where a vertex stands.
--   at_place                                           a place of a list of like members
--   place_in place_of_lem                                  the place of a vertex
use Rattle.std.specs.Prelude.{◌≡◌, refl, List, [], ◌∷◌, ℕ, zero, suc, ◌+◌, ◌<◌, get_or, length}
use Rattle.std.proofs.Common.{sym, zero-add, arith}
use Rattle.std.proofs.Math.Option.{Option, none, some}
use Rattle.definitions.specs.Lists.{Every}
use Rattle.definitions.specs.Labelling.{place_of}
use Rattle.logic.specs.Tests.{Equal, equal, differ, equality}
use Rattle.basics.specs.ListLaws.{Different}
use Rattle.basics.specs.ListPlaces.{different_at, place_of_at}

-- what holds of all members and of the default holds at every place
pub at_place : {A : Type 0} (P : A → Type 0) (d : A) (xs : List A) → P d → Every P xs → (i : ℕ) → P (get_or xs i d)
at_place P d [] p h i = p
at_place P d (x ∷ xs) p h zero = h.0
at_place P d (x ∷ xs) p h (suc i) = at_place P d xs p h.1 i

-- ---- the place of a vertex

abbrev Placed : ℕ → ℕ → List ℕ → Option ℕ → Type 0
Placed v i xs none = Unit {0}
Placed v i xs (some r) = (k : ℕ) × (r ≡ i + k) × (k < length xs) × (get_or xs k 0 ≡ v)

placed : (v i : ℕ) (xs : List ℕ) → Placed v i xs (place_of v i xs)
unfolding place_of
placed v i [] = tt
placed v i (x ∷ xs) = go (equality v x) (placed v (suc i) xs)
  where
    later : (y : Option ℕ) → Placed v (suc i) xs y → Placed v i (x ∷ xs) y
    later none h = tt
    later (some r) h = (suc h.0, omega arith, omega arith, h.3)

    go : Equal v x → Placed v (suc i) xs (place_of v (suc i) xs) → Placed v i (x ∷ xs) (place_of v i (x ∷ xs))
    go (equal t q) h = simp t (0, omega arith, omega arith, sym q)
    go (differ t q) h = simp t (later (place_of v (suc i) xs) h)

pub place_in : (v : ℕ) (xs : List ℕ) (r : ℕ) → place_of v 0 xs ≡ some r → (r < length xs) × (get_or xs r 0 ≡ v)
place_in v xs r h =
    let p : Placed v 0 xs (some r) = rw h at (placed v 0 xs) in
    let q : r ≡ p.0 = omega arith in
    (omega arith, rw q p.3)

pub place_of_lem : (xs : List ℕ) → Different xs → (k : ℕ) → k < length xs → place_of (get_or xs k 0) 0 xs ≡ some k
place_of_lem xs d k l =
    rw zero-add at (place_of_at (get_or xs k 0) 0 xs k l refl (λ j r q. let e : j ≡ k = different_at xs d j k (omega arith) l q in omega arith))
