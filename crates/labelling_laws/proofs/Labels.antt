-- The settled vertices and their labels.
--   label_old label_new label_other       the label of a vertex, with one settled vertex more
--   status                                settled with a label, or not
--   which                                 settled before, or last
--   labelled labelled_mem unlabelled      a label comes from a settled vertex
--   own_labels                            each settled vertex has its own label
--   arc_old arc_new arc_other             the arc that a vertex was settled by, with one settled vertex more
--   arc_none                              without a label there is none
use Rattle.std.proofs.Math.Path.{◌≡◌, refl}
use Rattle.std.proofs.Common.{sym, ◌∙◌, arith}
use Rattle.std.proofs.Math.Option.{none, some}
use Rattle.std.proofs.Math.Bool.{true, false}
use mathlib.Core.List.{List, [], ◌∷◌, ◌++◌, map}
use Rattle.std.specs.Prelude.{◌≢◌, ℕ, eqb}
use borrow.Author.Tests.{eq-eqb, ne_eqb, eqb-true}
use Rattle.definitions.specs.Lists.{mem, Every}
use Rattle.definitions.specs.Labelling.{Settled, label_of, arc_of}
use Rattle.logic.specs.Tests.{clash, or_left, or_right, Truth, holds, fails, truth, Equal, equal, differ, equality}
use Rattle.basics.specs.ListLaws.{Different}
use Rattle.labelling_laws.specs.Labels.{Status, settled, unsettled, Which, before, last}

module _ (v : ℕ) where
  pub label_old : (xs : List Settled) (x : Settled) (l : ℕ) → label_of v xs ≡ some l → label_of v (xs ++ x ∷ []) ≡ some l
  unfolding label_of
  label_old [] x l h = let z : ◌≡◌ {A = ℕ} 0 1 = cc in absurd (omega arith)
  label_old (y ∷ xs) x l h = go (truth (eqb v y.vertex)) (λ k. label_old xs x l k)
    where
      go : Truth (eqb v y.vertex) → (label_of v xs ≡ some l → label_of v (xs ++ x ∷ []) ≡ some l) → label_of v (y ∷ xs ++ x ∷ []) ≡ some l
      go (holds t) ih = simp t (simp t at h)
      go (fails t) ih = simp t (ih (simp t at h))

  pub label_new : (x : Settled) (xs : List Settled) → v ≡ x.vertex → label_of v xs ≡ none → label_of v (xs ++ x ∷ []) ≡ some x.label
  unfolding label_of
  label_new x [] q h = simp (eq-eqb v x.vertex q)
  label_new x (y ∷ xs) q h = go (truth (eqb v y.vertex)) (λ k. label_new x xs q k)
    where
      go : Truth (eqb v y.vertex) → (label_of v xs ≡ none → label_of v (xs ++ x ∷ []) ≡ some x.label) → label_of v (y ∷ xs ++ x ∷ []) ≡ some x.label
      go (holds t) ih = let z : ◌≡◌ {A = ℕ} 0 1 = cc (simp t at h) in absurd (omega arith)
      go (fails t) ih = simp t (ih (simp t at h))

  pub label_other : (x : Settled) (xs : List Settled) → v ≢ x.vertex → label_of v (xs ++ x ∷ []) ≡ label_of v xs
  unfolding label_of
  label_other x [] n = simp (ne_eqb v x.vertex n)
  label_other x (y ∷ xs) n = rw (label_other x xs n)

  pub status : (xs : List Settled) → Status v xs
  unfolding label_of
  status [] = unsettled refl
  status (x ∷ xs) = go (truth (eqb v x.vertex)) (status xs)
    where
      go : Truth (eqb v x.vertex) → Status v xs → Status v (x ∷ xs)
      go (holds t) s = settled x.label (simp t)
      go (fails t) (settled l h) = settled l (simp t h)
      go (fails t) (unsettled h) = unsettled (simp t h)

  pub which : (l : ℕ) (xs : List Settled) (x : Settled) → label_of x.vertex xs ≡ none → label_of v (xs ++ x ∷ []) ≡ some l → Which v l xs x
  which l xs x fresh q = go (equality v x.vertex)
    where
      go : Equal v x.vertex → Which v l xs x
      go (equal t e) =
          let y : some x.label ≡ some l = sym (label_new x xs e (rw e fresh)) ∙ q in
          let z : l ≡ x.label = cc in
          last e z
      go (differ t e) = before (rw (label_other x xs e) at q)

  -- what holds of all settled vertices holds of each label
  pub labelled : (P : ℕ → ℕ → Type 0) (l : ℕ) (xs : List Settled) → Every (λ x. P x.vertex x.label) xs → label_of v xs ≡ some l → P v l
  unfolding label_of
  labelled P l [] h q = let z : ◌≡◌ {A = ℕ} 0 1 = cc in absurd (omega arith)
  labelled P l (x ∷ xs) h q = go (truth (eqb v x.vertex)) (λ k. labelled P l xs h.1 k)
    where
      go : Truth (eqb v x.vertex) → (label_of v xs ≡ some l → P v l) → P v l
      go (holds t) ih =
          let a : v ≡ x.vertex = eqb-true v x.vertex t in
          let b : some x.label ≡ some l = simp t at q in
          let c : x.label ≡ l = cc in
          rw (a, ← c) h.0
      go (fails t) ih = ih (simp t at q)

  pub labelled_mem : (l : ℕ) (xs : List Settled) → label_of v xs ≡ some l → mem v (map (λ x. x.vertex) xs) ≡ true
  unfolding label_of mem
  labelled_mem l [] h = let z : ◌≡◌ {A = ℕ} 0 1 = cc in absurd (omega arith)
  labelled_mem l (x ∷ xs) h = go (truth (eqb v x.vertex)) (λ k. labelled_mem l xs k)
    where
      go : Truth (eqb v x.vertex) → (label_of v xs ≡ some l → mem v (map (λ x. x.vertex) xs) ≡ true) → mem v (map (λ x. x.vertex) (x ∷ xs)) ≡ true
      go (holds t) ih = simp t
      go (fails t) ih = simp t (ih (simp t at h))

  pub unlabelled : (xs : List Settled) → label_of v xs ≡ none → mem v (map (λ x. x.vertex) xs) ≡ false
  unfolding label_of mem
  unlabelled [] h = refl
  unlabelled (x ∷ xs) h = go (truth (eqb v x.vertex)) (λ k. unlabelled xs k)
    where
      go : Truth (eqb v x.vertex) → (label_of v xs ≡ none → mem v (map (λ x. x.vertex) xs) ≡ false) → mem v (map (λ x. x.vertex) (x ∷ xs)) ≡ false
      go (holds t) ih = let z : ◌≡◌ {A = ℕ} 0 1 = cc (simp t at h) in absurd (omega arith)
      go (fails t) ih = simp t (ih (simp t at h))

  -- ---- the arc that a vertex was settled by

  pub arc_old : (xs : List Settled) (x : Settled) (l : ℕ) → label_of v xs ≡ some l → arc_of v (xs ++ x ∷ []) ≡ arc_of v xs
  unfolding label_of arc_of
  arc_old [] x l h = let z : ◌≡◌ {A = ℕ} 0 1 = cc in absurd (omega arith)
  arc_old (y ∷ xs) x l h = go (truth (eqb v y.vertex)) (λ k. arc_old xs x l k)
    where
      go : Truth (eqb v y.vertex) → (label_of v xs ≡ some l → arc_of v (xs ++ x ∷ []) ≡ arc_of v xs) → arc_of v (y ∷ xs ++ x ∷ []) ≡ arc_of v (y ∷ xs)
      go (holds t) ih = simp t
      go (fails t) ih = simp t (ih (simp t at h))

  pub arc_new : (x : Settled) (xs : List Settled) → v ≡ x.vertex → label_of v xs ≡ none → arc_of v (xs ++ x ∷ []) ≡ x.arc
  unfolding label_of arc_of
  arc_new x [] q h = simp (eq-eqb v x.vertex q)
  arc_new x (y ∷ xs) q h = go (truth (eqb v y.vertex)) (λ k. arc_new x xs q k)
    where
      go : Truth (eqb v y.vertex) → (label_of v xs ≡ none → arc_of v (xs ++ x ∷ []) ≡ x.arc) → arc_of v (y ∷ xs ++ x ∷ []) ≡ x.arc
      go (holds t) ih = let z : ◌≡◌ {A = ℕ} 0 1 = cc (simp t at h) in absurd (omega arith)
      go (fails t) ih = simp t (ih (simp t at h))

  pub arc_other : (x : Settled) (xs : List Settled) → v ≢ x.vertex → arc_of v (xs ++ x ∷ []) ≡ arc_of v xs
  unfolding arc_of
  arc_other x [] n = simp (ne_eqb v x.vertex n)
  arc_other x (y ∷ xs) n = rw (arc_other x xs n)

  pub arc_none : (xs : List Settled) → label_of v xs ≡ none → arc_of v xs ≡ none
  unfolding label_of arc_of
  arc_none [] h = refl
  arc_none (y ∷ xs) h = go (truth (eqb v y.vertex)) (λ k. arc_none xs k)
    where
      go : Truth (eqb v y.vertex) → (label_of v xs ≡ none → arc_of v xs ≡ none) → arc_of v (y ∷ xs) ≡ none
      go (holds t) ih = let z : ◌≡◌ {A = ℕ} 0 1 = cc (simp t at h) in absurd (omega arith)
      go (fails t) ih = simp t (ih (simp t at h))

pub own_labels : (xs : List Settled) → Different (map (λ x. x.vertex) xs) → Every (λ x. label_of x.vertex xs ≡ some x.label) xs
unfolding label_of mem
own_labels [] d = tt
own_labels (x ∷ xs) d = (simp (eq-eqb x.vertex x.vertex refl), later xs d.0 (own_labels xs d.1))
  where
    later : (ys : List Settled) → mem x.vertex (map (λ y. y.vertex) ys) ≡ false → Every (λ y. label_of y.vertex xs ≡ some y.label) ys
        → Every (λ y. label_of y.vertex (x ∷ xs) ≡ some y.label) ys
    later [] m h = tt
    later (y ∷ ys) m h =
        let q : y.vertex ≢ x.vertex = λ z. clash (eq-eqb x.vertex y.vertex (sym z)) (or_left (eqb x.vertex y.vertex) (mem x.vertex (map (λ y. y.vertex) ys)) m) in
        (simp (ne_eqb y.vertex x.vertex q) h.0, later ys (or_right (eqb x.vertex y.vertex) (mem x.vertex (map (λ y. y.vertex) ys)) m) h.1)
