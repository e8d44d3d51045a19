-- The check by neighbours: linear in the table. Where there is no path anywhere in a row or a column, the neighbours are those on either side.
--   chain                               what neighbours have and such places pass on, all pairs of them have
--   last_next neighbours_next neighbours_fail   a loop over them
--   agree_is agree_from                 two rows, by neighbouring columns
--   fast_is fast_from fast_same         it is the check of all pairs
use Rattle.std.specs.Prelude.{◌≡◌, Bool, false, cond, not, ◌||◌, ◌⊎◌}
use Rattle.std.proofs.Math.Path.{refl}
use Rattle.std.proofs.Common.{sym, ◌∙◌, ⊎_elim, add-one, arith}
use Rattle.std.proofs.Math.Bool.{true, or-true}
use Rattle.std.proofs.Math.Logic.{inl, inr}
use Prim.Native.Nat.{ℕ, zero, suc, pred, ◌+◌, ◌≤◌, ◌<◌}
use Rattle.std.proofs.Math.Nat.{le_refl}
use Rattle.std.proofs.Math.Decide.{le_ind}
use borrow.Author.Tests.{ne_eqb, eqb-false, not-true}
use Rattle.std.proofs.Math.Dec.{eqb}
use Rattle.definitions.specs.Limits.{no_path}
use Rattle.definitions.specs.Metres.{IsNumber}
use Rattle.definitions.specs.Lists.{all}
use Rattle.definitions.specs.Network.{Rectangle}
use Rattle.definitions.specs.Monge.{Monge, corners, is_monge}
use Rattle.definitions.proofs.Laws.MongeLaws.{is_monge_is, is_monge_from}
use Rattle.definitions.proofs.Laws.Members.{all_at, all_is}
use Rattle.logic.specs.Tests.{clash, split_at, Truth, holds, fails, truth, Equal, equal, differ, equality}
use Rattle.basics.specs.ListLaws.{all_next, all_fails, all_not}
use Rattle.monge_laws.specs.Inequality.{Corners}
use Rattle.monge_laws.proofs.Inequality.{corners_is, corners_from}
use Rattle.monge_laws.specs.Neighbours.{last_below, agrees_at, neighbours, is_open_column, agree, is_open_row, is_monge_fast}

-- ---- neighbours

module _ (p : ℕ → Bool) where
  pub last_le : (n : ℕ) → last_below p n ≤ n
  unfolding last_below
  last_le zero = le_refl 0
  last_le (suc n) = go (truth (p n)) (last_le n)
    where
      go : Truth (p n) → last_below p n ≤ n → last_below p (suc n) ≤ suc n
      go (holds t) h = simp t (le_refl (suc n))
      go (fails t) h = simp t (omega arith)

  pub last_next : (l last : ℕ) → last ≡ last_below p l → cond (p l) (l + 1) last ≡ last_below p (l + 1)
  unfolding last_below
  last_next l last q = rw (q, add-one)

  module _ (ok : ℕ → ℕ → Bool) where
    agrees : (l m : ℕ) → agrees_at p ok l ≡ true → p l ≡ true → last_below p l ≡ suc m → ok m l ≡ true
    unfolding agrees_at
    agrees l m h t q = rw (t, q, ne_eqb (suc m) 0 (λ z. absurd (omega arith))) at h

    pub neighbours_from : (n : ℕ) → ((k l : ℕ) → k < l → l < n → ok k l ≡ true) → neighbours p ok n ≡ true
    unfolding neighbours agrees_at
    neighbours_from n f = all_is (agrees_at p ok) n (λ l h. go l h (equality (last_below p l) 0))
      where
        go : (l : ℕ) → l < n → Equal (last_below p l) 0 → agrees_at p ok l ≡ true
        go l h (equal t _) = rw t (or-true (not (p l)))
        go l h (differ t q) = rw (t, f (pred (last_below p l)) l (omega (arith, last_le l)) h) (or-true (not (p l)))

    -- a loop over the places, which carries the last one
    pub neighbours_next : (l last : ℕ) → last ≡ last_below p l → neighbours p ok l ≡ true → (not (p l) || (eqb last 0 || ok (pred last) l)) ≡ true → neighbours p ok (l + 1) ≡ true
    unfolding neighbours agrees_at
    neighbours_next l last q h t = all_next (agrees_at p ok) l h (rw (← q) t)

    pub neighbours_fail : (n l last : ℕ) → l < n → last ≡ last_below p l → (not (p l) || (eqb last 0 || ok (pred last) l)) ≡ false → neighbours p ok n ≡ false
    unfolding neighbours agrees_at
    neighbours_fail n l last h q t = all_fails (agrees_at p ok) n l h (rw (← q) t)

    -- what neighbours have, and is passed on over such places, all pairs of such places have
    module _ (R : ℕ → ℕ → Type 0) (is : (k l : ℕ) → k < l → ok k l ≡ true → R k l)
        (passed : (k m l : ℕ) → k < m → m < l → p m ≡ true → R k m → R m l → R k l) (n : ℕ) (given : neighbours p ok n ≡ true) where
      -- the last such place before l, and k
      record Last (k l : ℕ) : Type 0 where
        place : ℕ
        found : last_below p l ≡ suc place
        low : k ≤ place
        high : place < l
        here : p place ≡ true
        linked : (k ≡ place) ⊎ ((k < place) × R k place)

      next : (k l : ℕ) → l < n → p l ≡ true → Last k l → R k l
      unfolding neighbours
      next k l h t g = go (is g.place l g.high (agrees l g.place (all_at (agrees_at p ok) n given l h) t g.found)) g.linked
        where
          go : R g.place l → (k ≡ g.place) ⊎ ((k < g.place) × R k g.place) → R k l
          go r (inl q) = rw q r
          go r (inr (a, s)) = passed k g.place l a g.high g.here s r

      lasts : (k : ℕ) → p k ≡ true → (l : ℕ) → suc k ≤ l → l ≤ n → Last k l
      unfolding last_below
      lasts k t = le_ind (λ (l : ℕ). l ≤ n → Last k l)
          (λ _. record { place = k; found = simp t; low = le_refl k; high = le_refl (suc k); here = t; linked = inl refl })
          (λ l a ih h. more l a h (ih (omega arith)) (truth (p l)))
        where
          more : (l : ℕ) → suc k ≤ l → suc l ≤ n → Last k l → Truth (p l) → Last k (suc l)
          more l a h g (holds u) = record { place = l; found = simp u; low = omega arith; high = le_refl (suc l); here = u; linked = inr (a, next k l h u g) }
          more l a h g (fails u) = record { place = g.place; found = simp u g.found; low = g.low; high = omega (arith, g.high); here = g.here; linked = g.linked }

      pub chain : (k l : ℕ) → k < l → l < n → p k ≡ true → p l ≡ true → R k l
      chain k l kl hl t u = next k l hl u (lasts k t l kl (omega arith))

-- ---- two rows

module _ (e : Rectangle) (i j : ℕ) where
  open_upper : (k : ℕ) → IsNumber (e i k) → is_open_column e i j k ≡ true
  unfolding is_open_column
  open_upper k n = simp (ne_eqb (e i k) no_path n)

  open_lower : (k : ℕ) → IsNumber (e j k) → is_open_column e i j k ≡ true
  unfolding is_open_column
  open_lower k n = go (truth (eqb (e i k) no_path))
    where
      go : Truth (eqb (e i k) no_path) → is_open_column e i j k ≡ true
      go (holds t) = simp (t, ne_eqb (e j k) no_path n)
      go (fails t) = simp t

  open_one : (k : ℕ) → is_open_column e i j k ≡ true → IsNumber (e i k) ⊎ IsNumber (e j k)
  unfolding is_open_column
  open_one k h = go (equality (e i k) no_path) (equality (e j k) no_path)
    where
      go : Equal (e i k) no_path → Equal (e j k) no_path → IsNumber (e i k) ⊎ IsNumber (e j k)
      go (differ _ n) _ = inl n
      go (equal _ _) (differ _ n) = inr n
      go (equal t _) (equal u _) = absurd (clash (simp (t, u) at h) refl)

  -- over a column where one of the two rows has a path
  over_column : (k m l : ℕ) → IsNumber (e i m) ⊎ IsNumber (e j m) → Corners e i j k m → Corners e i j m l → Corners e i j k l
  over_column k m l one f g il jk = ⊎_elim (λ im. go (f im jk).1) go one
    where
      go : IsNumber (e j m) → IsNumber (e i k) × IsNumber (e j l) × (e i k + e j l ≤ e i l + e j k)
      go jm =
          let y = g il jm in
          let x = f y.0 jk in
          (x.0, y.1, omega (arith, x.2, y.2))

  pub agree_is : (cols : ℕ) → agree e cols i j ≡ true → (k l : ℕ) → k < l → l < cols → Corners e i j k l
  unfolding agree
  agree_is cols h k l kl hl il jk =
      chain (is_open_column e i j) (corners e i j) (Corners e i j) (λ k l _ t. corners_is e i j k l t)
      (λ k m l _ _ t f g. over_column k m l (open_one m t) f g) cols h k l kl hl (open_lower k jk) (open_upper l il) il jk

  pub agree_from : (cols : ℕ) → ((k l : ℕ) → k < l → l < cols → Corners e i j k l) → agree e cols i j ≡ true
  unfolding agree
  agree_from cols f = neighbours_from (is_open_column e i j) (corners e i j) cols (λ k l kl hl. corners_from e i j k l (f k l kl hl))

-- ---- all rows

module _ (e : Rectangle) (rows cols : ℕ) where
  -- two rows at all columns
  abbrev Two : ℕ → ℕ → Type 0
  Two i j = (k l : ℕ) → k < l → l < cols → Corners e i j k l

  open_at : (i k : ℕ) → k < cols → IsNumber (e i k) → is_open_row e cols i ≡ true
  unfolding is_open_row
  open_at i k h n = rw (all_fails (λ k. eqb (e i k) no_path) cols k h (ne_eqb (e i k) no_path n))

  open_some : (i : ℕ) → is_open_row e cols i ≡ true → (k : ℕ) × (k < cols) × IsNumber (e i k)
  unfolding is_open_row
  open_some i h =
      let x = all_not (λ k. eqb (e i k) no_path) cols (not-true (all (λ k. eqb (e i k) no_path) cols) h) in
      (x.0, x.1, eqb-false (e i x.0) no_path x.2)

  -- over a row that has a path somewhere: it has one at both columns
  over_row : (i m j : ℕ) → (x : ℕ) × (x < cols) × IsNumber (e m x) → Two i m → Two m j → Two i j
  over_row i m j (x, hx, mx) f g k l kl hl il jk = ⊎_elim (λ (a : x < l). later (f x l a hl il mx).1) (λ (a : l ≤ x). earlier (g k x (omega arith) hx mx jk).0) (split_at x l)
    where
      both : IsNumber (e m k) → IsNumber (e m l) → IsNumber (e i k) × IsNumber (e j l) × (e i k + e j l ≤ e i l + e j k)
      both mk ml =
          let y = f k l kl hl il mk in
          let z = g k l kl hl ml jk in
          (y.0, z.1, omega (arith, y.2, z.2))

      later : IsNumber (e m l) → IsNumber (e i k) × IsNumber (e j l) × (e i k + e j l ≤ e i l + e j k)
      later ml = both (g k l kl hl ml jk).0 ml

      earlier : IsNumber (e m k) → IsNumber (e i k) × IsNumber (e j l) × (e i k + e j l ≤ e i l + e j k)
      earlier mk = both mk (f k l kl hl il mk).1

  pub fast_is : is_monge_fast e rows cols ≡ true → Monge e rows cols
  unfolding is_monge_fast
  fast_is h i j k l ij hj kl hl = corners_from e i j k l (λ il jk.
      chain (is_open_row e cols) (agree e cols) Two (λ i j _ t. agree_is e i j cols t)
      (λ i m j _ _ t f g. over_row i m j (open_some m t) f g) rows h i j ij hj (open_at i l hl il) (open_at j k (omega arith) jk) k l kl hl il jk)

  pub fast_from : Monge e rows cols → is_monge_fast e rows cols ≡ true
  unfolding is_monge_fast
  fast_from ok = neighbours_from (is_open_row e cols) (agree e cols) rows
      (λ i j ij hj. agree_from e i j cols (λ k l kl hl. corners_is e i j k l (ok i j k l ij hj kl hl)))

  pub fast_same : is_monge_fast e rows cols ≡ is_monge e rows cols
  fast_same = go (truth (is_monge_fast e rows cols)) (truth (is_monge e rows cols))
    where
      go : Truth (is_monge_fast e rows cols) → Truth (is_monge e rows cols) → is_monge_fast e rows cols ≡ is_monge e rows cols
      go (holds t) _ = t ∙ sym (is_monge_from e rows cols (fast_is t))
      go (fails t) (holds u) = absurd (clash (fast_from (is_monge_is e rows cols u)) t)
      go (fails t) (fails u) = t ∙ sym u
