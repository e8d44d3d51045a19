-- What the exported field reader leaves.
use Rattle.std.specs.Prelude.{◌≡◌, refl, List, [], ◌∷◌, ◌≢◌, ℕ, length, set}
use Rattle.std.proofs.Common.{arith, eq-eqb, ne_eqb}
use Rattle.definitions.specs.Fields.{FieldAnswer, field_at}
use Rattle.definitions.specs.Entries.{has_places, field_entry}

pub field_size : (text : List ℕ) (at : ℕ) (value : List ℕ) → length value ≢ 1 → record { number = 1; value = value } ≡ field_entry text at value
unfolding field_entry has_places
field_size text at value h = simp (ne_eqb _ _ h)

one_place : (value : List ℕ) (x : ℕ) → length value ≡ 1 → set value 0 x ≡ x ∷ []
one_place [] x h = absurd (omega arith)
one_place (y ∷ []) x h = refl
one_place (y ∷ z ∷ ys) x h = absurd (omega arith)

pub field_left : (text : List ℕ) (at : ℕ) (value : List ℕ) (f : FieldAnswer) → length value ≡ 1 → f ≡ field_at text at
    → record { number = f.number; value = set value 0 f.value } ≡ field_entry text at value
unfolding field_entry has_places
field_left text at value f h e = rw (one_place value f.value h, eq-eqb _ _ h, ← e)
