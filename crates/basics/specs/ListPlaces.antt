-- Where a number stands in a list.
--   different_at                 places of a list of different numbers
--   place_of_none place_of_at      a number that does not stand in a list, and the place of one that does
use Rattle.std.specs.Prelude.{◌≡◌, refl, List, [], ◌∷◌, ◌≢◌, ℕ, zero, suc, ◌+◌, ◌<◌, get_or, length}
use Rattle.std.proofs.Common.{sym, ap, arith, eq-eqb, ne_eqb}
use Rattle.std.proofs.Math.Option.{none, some}
use Rattle.definitions.specs.Labelling.{place_of}
use Rattle.logic.specs.Tests.{clash}
use Rattle.basics.specs.ListLaws.{Different}
use Rattle.basics.specs.Sequences.{mem_at}

pub different_at : (xs : List ℕ) → Different xs → (i j : ℕ) → i < length xs → j < length xs → get_or xs i 0 ≡ get_or xs j 0 → i ≡ j
different_at [] h i j l r e = absurd (omega arith)
different_at (x ∷ xs) h zero zero l r e = refl
different_at (x ∷ xs) h zero (suc j) l r e = absurd (clash (rw e (mem_at xs j (omega arith))) h.0)
different_at (x ∷ xs) h (suc i) zero l r e = absurd (clash (rw (sym e) (mem_at xs i (omega arith))) h.0)
different_at (x ∷ xs) h (suc i) (suc j) l r e = ap suc (different_at xs h.1 i j (omega arith) (omega arith) e)

pub place_of_none : (v a : ℕ) (xs : List ℕ) → ((j : ℕ) → j < length xs → get_or xs j 0 ≢ v) → place_of v a xs ≡ none
unfolding place_of
place_of_none v a [] f = refl
place_of_none v a (x ∷ xs) f = rw (ne_eqb v x (λ e. f 0 (omega arith) (sym e))) (place_of_none v (suc a) xs (λ j l. f (suc j) (omega arith)))

pub place_of_at : (v a : ℕ) (xs : List ℕ) (i : ℕ) → i < length xs → get_or xs i 0 ≡ v → ((j : ℕ) → j < i → get_or xs j 0 ≢ v) → place_of v a xs ≡ some (a + i)
unfolding place_of
place_of_at v a [] i l h f = absurd (omega arith)
place_of_at v a (x ∷ xs) zero l h f = let e : a + 0 ≡ a = omega arith in rw (eq-eqb v x (sym h), e)
place_of_at v a (x ∷ xs) (suc i) l h f =
    let e : a + suc i ≡ suc a + i = omega arith in
    rw (ne_eqb v x (λ e. f 0 (omega arith) (sym e)), e) (place_of_at v (suc a) xs i (omega arith) h (λ j r. f (suc j) (omega arith)))
