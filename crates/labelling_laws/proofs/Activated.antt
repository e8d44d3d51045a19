-- The activated rows of a block as a function of the settled vertices: invariant (a).
--   activated_by_snoc                with one settled vertex more
--   row_settled                      an activated row is a settled vertex, with its label
--   settled_up_to                     a settled row bounds the least sum of each column where it has a path
--   not_activated                    a vertex that is not settled is no activated row
use Rattle.std.specs.Prelude.{◌≡◌, refl, true, false, List, [], ◌∷◌, ◌++◌, ◌≢◌, ℕ, eqb, get_or}
use Rattle.std.proofs.Common.{sym, ◌∙◌, append_assoc, append-nil, arith, ne_eqb, eqb-true}
use Rattle.std.proofs.Math.Option.{Option, none, some}
use Rattle.definitions.specs.Limits.{sum}
use Rattle.definitions.specs.Metres.{IsNumber}
use Rattle.definitions.specs.Lists.{Every}
use Rattle.definitions.specs.Network.{Rectangle}
use Rattle.definitions.specs.Best.{by, least}
use Rattle.definitions.specs.Model.{through, parent, is_activated}
use Rattle.definitions.specs.Labelling.{place_of, Settled, label_of}
use Rattle.logic.specs.Tests.{clash, Truth, holds, fails, truth, Equal, equal, differ, equality}
use Rattle.heap_laws.specs.Lesser.{UpTo}
use Rattle.heap_laws.proofs.Lesser.{up_to_lesser, up_to_right}
use Rattle.heap_laws.proofs.Parents.{through_some}
use Rattle.heap_laws.specs.Parents.{row_label}
use Rattle.labelling_laws.proofs.VertexPlaces.{place_in}
use Rattle.labelling_laws.specs.Activated.{activated_one, activated_by}

pub activated_by_snoc : (rows : List ℕ) (xs : List Settled) (x : Settled) → activated_by rows (xs ++ x ∷ []) ≡ activated_by rows xs ++ activated_one (place_of x.vertex 0 rows) x.label
unfolding activated_by
activated_by_snoc rows [] x = append-nil (activated_one (place_of x.vertex 0 rows) x.label)
activated_by_snoc rows (y ∷ xs) x =
    rw (activated_by_snoc rows xs x) (sym (append_assoc (activated_one (place_of y.vertex 0 rows) y.label) (activated_by rows xs) (activated_one (place_of x.vertex 0 rows) x.label)))

-- an activated row is a settled vertex, with its label
pub row_settled : (P : ℕ → ℕ → Type 0) (rows : List ℕ) (r : ℕ) (xs : List Settled) → Every (λ x. P x.vertex x.label) xs → is_activated r (activated_by rows xs) ≡ true
    → P (get_or rows r 0) (row_label r (activated_by rows xs))
unfolding activated_by activated_one is_activated row_label
row_settled P rows r [] h q = absurd (clash q refl)
row_settled P rows r (x ∷ xs) h q = go (place_of x.vertex 0 rows) refl (λ k. row_settled P rows r xs h.1 k) q
  where
    go : (y : Option ℕ) → place_of x.vertex 0 rows ≡ y → (is_activated r (activated_by rows xs) ≡ true → P (get_or rows r 0) (row_label r (activated_by rows xs)))
        → is_activated r (activated_one y x.label ++ activated_by rows xs) ≡ true → P (get_or rows r 0) (row_label r (activated_one y x.label ++ activated_by rows xs))
    go none p ih q = ih q
    go (some k) p ih q = this (equality r k)
      where
        this : Equal r k → P (get_or rows r 0) (row_label r (activated_one (some k) x.label ++ activated_by rows xs))
        this (equal t e) = simp t (rw (e, (place_in x.vertex rows k p).1) h.0)
        this (differ t e) = simp t (ih (simp t at q))

pub settled_up_to : (e : Rectangle) (rows : List ℕ) (c v r l : ℕ) (xs : List Settled) → IsNumber (e r c) → label_of v xs ≡ some l → place_of v 0 rows ≡ some r
    → UpTo (sum l (e r c)) (parent e (activated_by rows xs) c)
unfolding activated_by activated_one parent least label_of
settled_up_to e rows c v r l [] n h p = let z : ◌≡◌ {A = ℕ} 0 1 = cc in absurd (omega arith)
settled_up_to e rows c v r l (x ∷ xs) n h p = go (truth (eqb v x.vertex)) (λ k. settled_up_to e rows c v r l xs n k p)
  where
    after : (y : Option ℕ) → UpTo (sum l (e r c)) (parent e (activated_by rows xs) c) → UpTo (sum l (e r c)) (parent e (activated_one y x.label ++ activated_by rows xs) c)
    after none i = i
    after (some k) i = up_to_right (sum l (e r c)) (through e c (record { row = k; label = x.label })) (parent e (activated_by rows xs) c) i

    go : Truth (eqb v x.vertex) → (label_of v xs ≡ some l → UpTo (sum l (e r c)) (parent e (activated_by rows xs) c)) → UpTo (sum l (e r c)) (parent e (activated_by rows (x ∷ xs)) c)
    go (holds t) ih =
        let a : v ≡ x.vertex = eqb-true v x.vertex t in
        let b : some x.label ≡ some l = simp t at h in
        let m : x.label ≡ l = cc in
        rw (← a, p, through_some e c (record { row = r; label = x.label }) n) (up_to_lesser (sum l (e r c)) (by r (sum x.label (e r c))) (parent e (activated_by rows xs) c) (omega arith))
    go (fails t) ih = after (place_of x.vertex 0 rows) (ih (simp t at h))

pub not_activated : (rows : List ℕ) (v r : ℕ) (xs : List Settled) → label_of v xs ≡ none → place_of v 0 rows ≡ some r → is_activated r (activated_by rows xs) ≡ false
unfolding activated_by activated_one is_activated label_of
not_activated rows v r [] h p = refl
not_activated rows v r (x ∷ xs) h p = go (equality v x.vertex) (λ k. not_activated rows v r xs k p)
  where
    after : (y : Option ℕ) → place_of x.vertex 0 rows ≡ y → v ≢ x.vertex → is_activated r (activated_by rows xs) ≡ false → is_activated r (activated_one y x.label ++ activated_by rows xs) ≡ false
    after none q n i = i
    after (some k) q n i =
        let d : r ≢ k = λ (u : r ≡ k). n (sym (place_in v rows r p).1 ∙ rw u (place_in x.vertex rows k q).1) in
        simp (ne_eqb r k d) i

    go : Equal v x.vertex → (label_of v xs ≡ none → is_activated r (activated_by rows xs) ≡ false) → is_activated r (activated_by rows (x ∷ xs)) ≡ false
    go (equal t q) ih = let w : ◌≡◌ {A = ℕ} 0 1 = cc (simp t at h) in absurd (omega arith)
    go (differ t n) ih = after (place_of x.vertex 0 rows) refl n (ih (simp t at h))
