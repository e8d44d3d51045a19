-- The parent of a column.
--   is_activated_snoc once_snoc           each row is activated once
--   parent_snoc                          one more activated row
--   through_some through_none through_from   a row with a path to a column, and one without
--   parent_nobody parent_none            a column where no activated row has a path
--   parent_is                            the earliest activated row that reaches the least sum
--   parent_row parent_path parent_activated   it is a row, has a path, and is activated
--   parent_sum                            its sum, from its label
--   available_parent                     that of an available column
--   parents_rise                         M3: parents rise with the columns
use Rattle.std.specs.Prelude.{◌≡◌, refl, true, false, ◌||◌, List, [], ◌∷◌, ◌++◌, ◌≢◌, ℕ, zero, suc, ◌+◌, ◌≤◌, ◌<◌, eqb, length}
use Rattle.std.proofs.Common.{sym, ap, ◌∙◌, ⊎_elim, arith, eq-eqb, ne_eqb}
use Rattle.std.proofs.Math.Bool.{or-true, or_assoc, or-false}
use Rattle.definitions.specs.Limits.{sum, no_path}
use Rattle.definitions.specs.Metres.{IsNumber}
use Rattle.definitions.specs.Lists.{mem, Every}
use Rattle.definitions.specs.Network.{Rectangle}
use Rattle.definitions.specs.Monge.{Monge}
use Rattle.definitions.specs.Best.{Best, nobody, by, lesser, least}
use Rattle.definitions.specs.Model.{Activation, Model, through, parent, available, is_activated}
use Rattle.logic.specs.Tests.{clash, or_left, or_right, split_at, Order, less, more, order, Truth, holds, fails, truth, Equal, equal, differ, equality}
use Rattle.basics.specs.ListLaws.{every_at}
use Rattle.monge_laws.proofs.Inequality.{crossing}
use Rattle.heap_laws.proofs.Lesser.{lesser_nobody, lesser_assoc, lesser_none}
use Rattle.heap_laws.specs.Lesser.{From}
use Rattle.heap_laws.specs.Parents.{Once, none, row_at, label_at, sum_at, Earliest, IsParent, row_label}

-- ---- each row once

pub is_activated_snoc : (r : ℕ) (xs : List Activation) (a : Activation) → is_activated r (xs ++ a ∷ []) ≡ (is_activated r xs || eqb r a.row)
unfolding is_activated
is_activated_snoc r [] a = or-false (eqb r a.row)
is_activated_snoc r (x ∷ xs) a = rw (is_activated_snoc r xs a) (sym (or_assoc (eqb r x.row) (is_activated r xs) (eqb r a.row)))

pub once_snoc : (xs : List Activation) (a : Activation) → Once xs → is_activated a.row xs ≡ false → Once (xs ++ a ∷ [])
unfolding is_activated
once_snoc [] a o h = (refl, tt)
once_snoc (x ∷ xs) a o h =
    let p : eqb a.row x.row ≡ false = or_left (eqb a.row x.row) (is_activated a.row xs) h in
    let q : is_activated a.row xs ≡ false = or_right (eqb a.row x.row) (is_activated a.row xs) h in
    let n : x.row ≢ a.row = λ z. clash (eq-eqb a.row x.row (sym z)) p in
    (rw (is_activated_snoc x.row xs a, o.0, ne_eqb x.row a.row n), once_snoc xs a o.1 q)

-- ---- a parent

pub parent_snoc : (e : Rectangle) (xs : List Activation) (a : Activation) (c : ℕ) → parent e (xs ++ a ∷ []) c ≡ lesser (parent e xs c) (through e c a)
unfolding parent least lesser
parent_snoc e [] a c = lesser_nobody (through e c a)
parent_snoc e (x ∷ xs) a c = ap (lesser (through e c x)) (parent_snoc e xs a c) ∙ sym (lesser_assoc (through e c x) (parent e xs c) (through e c a))

-- ---- a row with a path there, and one without

pub through_some : (e : Rectangle) (c : ℕ) (a : Activation) → IsNumber (e a.row c) → through e c a ≡ by a.row (sum a.label (e a.row c))
unfolding through
through_some e c a n = simp (ne_eqb (e a.row c) no_path n)

pub through_none : (e : Rectangle) (c : ℕ) (a : Activation) → e a.row c ≡ no_path → through e c a ≡ nobody
unfolding through
through_none e c a q = simp (eq-eqb (e a.row c) no_path q)

-- at least the row's label
pub through_from : (e : Rectangle) (c : ℕ) (a : Activation) (n : ℕ) → n ≤ a.label → From n (through e c a)
through_from e c a n l = go (equality (e a.row c) no_path)
  where
    go : Equal (e a.row c) no_path → From n (through e c a)
    go (equal _ q) = rw (through_none e c a q) tt
    go (differ _ k) = rw (through_some e c a k) (omega arith)

-- a column without a parent: no activated row has a path there
pub parent_nobody : (e : Rectangle) (xs : List Activation) (c : ℕ) → parent e xs c ≡ nobody → (i : ℕ) → i < length xs → e (row_at xs i) c ≡ no_path
unfolding parent least
parent_nobody e [] c h i l = absurd (omega arith)
parent_nobody e (a ∷ xs) c h zero l = go (equality (e a.row c) no_path)
  where
    go : Equal (e a.row c) no_path → e a.row c ≡ no_path
    go (equal _ q) = q
    go (differ _ n) =
        let k : by a.row (sum a.label (e a.row c)) ≡ nobody = rw (through_some e c a n) at (lesser_none (through e c a) (parent e xs c) h).0 in
        let z : ◌≡◌ {A = ℕ} 0 1 = cc in absurd (omega arith)
parent_nobody e (a ∷ xs) c h (suc i) l = parent_nobody e xs c (lesser_none (through e c a) (parent e xs c) h).1 i (omega arith)

-- a column where no activated row has a path
pub parent_none : (e : Rectangle) (xs : List Activation) (c : ℕ) → Every (λ a. e a.row c ≡ no_path) xs → parent e xs c ≡ nobody
unfolding parent least lesser
parent_none e [] c h = refl
parent_none e (a ∷ xs) c h = rw (through_none e c a h.0) (parent_none e xs c h.1)

-- the first activated row, or the parent among the others
pub parent_is : (e : Rectangle) (xs : List Activation) (c p s : ℕ) → parent e xs c ≡ by p s → IsParent e xs c p s
unfolding parent least lesser
parent_is e [] c p s h = let z : ◌≡◌ {A = ℕ} 0 1 = cc in absurd (omega arith)
parent_is e (a ∷ xs) c p s h = which (equality (e a.row c) no_path) (parent_is e xs c)
  where
    here : ℕ
    here = sum a.label (e a.row c)

    first : IsNumber (e a.row c) → by a.row here ≡ by p s → ((j : ℕ) → j < length xs → IsNumber (e (row_at xs j) c) → s ≤ sum_at e xs c j) → IsParent e (a ∷ xs) c p s
    first n q f = let z : s ≡ here = cc in (0, cc, record { inside = omega arith; path = n; sum_is = z; no_less = at z; no_earlier = λ j l. absurd (omega arith) })
      where
        at : s ≡ here → (j : ℕ) → j < suc (length xs) → IsNumber (e (row_at (a ∷ xs) j) c) → s ≤ sum_at e (a ∷ xs) c j
        at z zero l _ = omega arith
        at z (suc j) l k = f j (omega arith) k

    rest : IsParent e xs c p s → (IsNumber (e a.row c) → s < here) → IsParent e (a ∷ xs) c p s
    rest (i, q, g) l = (suc i, q, record { inside = omega arith; path = g.path; sum_is = g.sum_is; no_less = at; no_earlier = earlier })
      where
        at : (j : ℕ) → j < suc (length xs) → IsNumber (e (row_at (a ∷ xs) j) c) → s ≤ sum_at e (a ∷ xs) c j
        at zero m n = omega (arith, l n)
        at (suc j) m n = g.no_less j (omega arith) n

        earlier : (j : ℕ) → j < suc i → IsNumber (e (row_at (a ∷ xs) j) c) → s < sum_at e (a ∷ xs) c j
        earlier zero m n = l n
        earlier (suc j) m n = g.no_earlier j (omega arith) n

    go : IsNumber (e a.row c) → lesser (by a.row here) (parent e xs c) ≡ by p s → (x : Best) → parent e xs c ≡ x → ((p s : ℕ) → parent e xs c ≡ by p s → IsParent e xs c p s)
        → IsParent e (a ∷ xs) c p s
    go n h nobody q ih = first n (rw (q, lesser) at h) (λ j l k. absurd (k (parent_nobody e xs c q j l)))
    go n h (by p' s') q ih = two (order s' here)
      where
        two : Order s' here → IsParent e (a ∷ xs) c p s
        two (less t l) = let z : by p' s' ≡ by p s = rw (q, lesser, t) at h in let y : s' ≡ s = cc in rest (ih p s (q ∙ z)) (λ _. omega arith)
        two (more t l) =
            let z : by a.row here ≡ by p s = rw (q, lesser, t) at h in
            let y : here ≡ s = cc in
            first n z (λ j m k. omega (arith, (ih p' s' q).2.no_less j m k))

    which : Equal (e a.row c) no_path → ((p s : ℕ) → parent e xs c ≡ by p s → IsParent e xs c p s) → IsParent e (a ∷ xs) c p s
    which (equal _ q) ih = rest (ih p s (rw (through_none e c a q) at h)) (λ n. absurd (n q))
    which (differ _ n) ih = go n (rw (through_some e c a n) at h) (parent e xs c) refl ih

pub row_in_lem : {rows : ℕ} (xs : List Activation) → Every (λ a. a.row < rows) xs → (i : ℕ) → i < length xs → row_at xs i < rows
row_in_lem {rows} xs w i l = every_at (λ a. a.row < rows) xs w i none l

pub parent_row : (e : Rectangle) (rows : ℕ) (xs : List Activation) (c p s : ℕ) → Every (λ a. a.row < rows) xs → parent e xs c ≡ by p s → p < rows
parent_row e rows xs c p s w h =
    let g = parent_is e xs c p s h in
    rw g.1 (row_in_lem xs w g.0 g.2.inside)

-- it has a path there
pub parent_path : (e : Rectangle) (xs : List Activation) (c p s : ℕ) → parent e xs c ≡ by p s → IsNumber (e p c)
parent_path e xs c p s h = let g = parent_is e xs c p s h in rw g.1 g.2.path

activated_at : (xs : List Activation) (i : ℕ) → i < length xs → is_activated (row_at xs i) xs ≡ true
unfolding is_activated
activated_at [] i l = absurd (omega arith)
activated_at (a ∷ xs) zero l = simp (eq-eqb a.row a.row refl)
activated_at (a ∷ xs) (suc i) l = rw (activated_at xs i (omega arith)) (or-true (eqb (row_at xs i) a.row))

pub parent_activated : (e : Rectangle) (xs : List Activation) (c p s : ℕ) → parent e xs c ≡ by p s → is_activated p xs ≡ true
parent_activated e xs c p s h = let g = parent_is e xs c p s h in rw g.1 (activated_at xs g.0 g.2.inside)

row_label_at : (xs : List Activation) (i : ℕ) → Once xs → i < length xs → row_label (row_at xs i) xs ≡ label_at xs i
unfolding row_label
row_label_at [] i o l = absurd (omega arith)
row_label_at (a ∷ xs) zero o l = simp (eq-eqb a.row a.row refl)
row_label_at (a ∷ xs) (suc i) o l =
    let n : row_at xs i ≢ a.row = λ z. clash (activated_at xs i (omega arith)) (rw z o.0) in
    simp (ne_eqb (row_at xs i) a.row n) (row_label_at xs i o.1 (omega arith))

pub parent_sum : (e : Rectangle) (xs : List Activation) (c p s : ℕ) → Once xs → parent e xs c ≡ by p s → s ≡ sum (row_label p xs) (e p c)
parent_sum e xs c p s o h = let g = parent_is e xs c p s h in rw (g.1, row_label_at xs g.0 o g.2.inside) g.2.sum_is

-- the parent of an available column
pub available_parent : (e : Rectangle) (m : Model) (c p s : ℕ) → available e m c ≡ by p s → parent e m.activated c ≡ by p s
unfolding available
available_parent e m c p s h = go (truth (mem c m.extracted))
  where
    go : Truth (mem c m.extracted) → parent e m.activated c ≡ by p s
    go (holds t) = let z : nobody ≡ by p s = simp t at h in cc
    go (fails t) = simp t at h

-- ---- M3

-- Two columns c ≤ d with the parents p and q. Were q < p, then neither would be below the other at the other's column, and the one
-- activated later would be strictly above: added up, the two sums contradict the inequality.
module _ (e : Rectangle) (rows cols : ℕ) (ok : Monge e rows cols) (xs : List Activation) (in_rows : Every (λ a. a.row < rows) xs)
    (c d : ℕ) (cd : c ≤ d) (hd : d < cols) where
  rise : (i j s t : ℕ) → Earliest e xs c i s → Earliest e xs d j t → row_at xs i ≤ row_at xs j
  rise i j s t g h = ⊎_elim (λ (l : row_at xs j < row_at xs i). absurd (never l (order i j) (order j i))) (λ l. l) (split_at (row_at xs j) (row_at xs i))
    where
      never : row_at xs j < row_at xs i → Order i j → Order j i → ⊥
      never l a b = go a b
          (crossing e rows cols ok (row_at xs j) (row_at xs i) (label_at xs j) (label_at xs i) c d (omega arith) (row_in_lem xs in_rows i g.inside) cd hd h.path g.path)
        where
          go : Order i j → Order j i
              → IsNumber (e (row_at xs j) c) × IsNumber (e (row_at xs i) d) × (sum_at e xs c j + sum_at e xs d i ≤ sum_at e xs d j + sum_at e xs c i) → ⊥
          go (less _ m) _ (x, y, k) = omega (arith, k, g.no_less j h.inside x, h.no_less i g.inside y, h.no_earlier i m y)
          go (more _ m) (less _ n) (x, y, k) = omega (arith, k, g.no_less j h.inside x, h.no_less i g.inside y, g.no_earlier j n x)
          go (more _ m) (more _ n) _ = let z : i ≡ j = omega arith in omega (arith, ap (row_at xs) z)

  pub parents_rise : (p s q t : ℕ) → parent e xs c ≡ by p s → parent e xs d ≡ by q t → p ≤ q
  parents_rise p s q t x y =
      let g = parent_is e xs c p s x in
      let h = parent_is e xs d q t y in
      rw (g.1, h.1) (rise g.0 h.0 s t g.2 h.2)
