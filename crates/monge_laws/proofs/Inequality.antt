-- The inequality of a rectangle, with no path.
--   corners_is corners_from   what it says of four entries: N1 and M1
--   monge                         the same where rows or columns may be equal
--   crossing                      M2: the same of two rows with labels
--   crossing_later crossing_earlier   so two rows cross at most once
use Rattle.std.specs.Prelude.{◌≡◌, refl, true, ◌⊎◌, ℕ, ◌+◌, ◌≤◌, ◌<◌}
use Rattle.std.proofs.Common.{inl, inr, eq-or-lt_of_le, arith, leb-true, le-leb, ne_eqb}
use Rattle.definitions.specs.Limits.{sum, no_path}
use Rattle.definitions.specs.Metres.{IsNumber, Metres, number, no_path_lem, metres_of, plus, at_most}
use Rattle.definitions.specs.Network.{Rectangle}
use Rattle.definitions.specs.Monge.{Monge, corners}
use Rattle.logic.specs.Tests.{clash, Equal, equal, differ, equality}
use Rattle.monge_laws.specs.Inequality.{Corners}

-- ---- four entries

-- a and d on the left, b and c on the right
numbers : (a d b c : ℕ) → IsNumber b → IsNumber c → at_most (plus (metres_of a) (metres_of d)) (plus (metres_of b) (metres_of c)) ≡ true
    → IsNumber a × IsNumber d × (a + d ≤ b + c)
unfolding metres_of plus at_most
numbers a d b c nb nc = go (equality a no_path) (equality d no_path)
  where
    go : Equal a no_path → Equal d no_path → at_most (plus (metres_of a) (metres_of d)) (plus (metres_of b) (metres_of c)) ≡ true → IsNumber a × IsNumber d × (a + d ≤ b + c)
    go (equal t q) _ h = absurd (clash (simp (t, ne_eqb b no_path nb, ne_eqb c no_path nc) at h) refl)
    go (differ t q) (equal u p) h = absurd (clash (simp (t, u, ne_eqb b no_path nb, ne_eqb c no_path nc) at h) refl)
    go (differ t q) (differ u p) h = (q, p, leb-true (a + d) (b + c) (simp (t, u, ne_eqb b no_path nb, ne_eqb c no_path nc) at h))

above : (x : Metres) → at_most x no_path_lem ≡ true
unfolding at_most
above (number a) = refl
above no_path_lem = refl

metres : (a d b c : ℕ) → (IsNumber b → IsNumber c → IsNumber a × IsNumber d × (a + d ≤ b + c))
    → at_most (plus (metres_of a) (metres_of d)) (plus (metres_of b) (metres_of c)) ≡ true
unfolding metres_of plus at_most
metres a d b c f = go (equality b no_path) (equality c no_path)
  where
    go : Equal b no_path → Equal c no_path → at_most (plus (metres_of a) (metres_of d)) (plus (metres_of b) (metres_of c)) ≡ true
    go (equal t q) _ = simp t (above (plus (metres_of a) (metres_of d)))
    go (differ t q) (equal u p) = simp (t, u) (above (plus (metres_of a) (metres_of d)))
    go (differ t q) (differ u p) = let n = f q p in simp (t, u, ne_eqb a no_path n.0, ne_eqb d no_path n.1, le-leb (a + d) (b + c) n.2)

pub corners_is : (e : Rectangle) (i j k l : ℕ) → corners e i j k l ≡ true → Corners e i j k l
unfolding corners
corners_is e i j k l h il jk = numbers (e i k) (e j l) (e i l) (e j k) il jk h

pub corners_from : (e : Rectangle) (i j k l : ℕ) → Corners e i j k l → corners e i j k l ≡ true
unfolding corners
corners_from e i j k l f = metres (e i k) (e j l) (e i l) (e j k) f

-- ---- all pairs

module _ (e : Rectangle) (rows cols : ℕ) (ok : Monge e rows cols) where
  pub monge : (i j k l : ℕ) → i ≤ j → j < rows → k ≤ l → l < cols → Corners e i j k l
  monge i j k l ij hj kl hl = go (eq-or-lt_of_le ij) (eq-or-lt_of_le kl)
    where
      go : (i ≡ j) ⊎ (i < j) → (k ≡ l) ⊎ (k < l) → Corners e i j k l
      go (inl q) _ = rw q (λ il jk. (jk, il, omega arith))
      go (inr _) (inl q) = rw q (λ il jk. (il, jk, omega arith))
      go (inr a) (inr b) = corners_is e i j k l (ok i j k l a hj b hl)

  -- rows a ≤ b with labels v and u, columns k ≤ l; a number of the lower row at l and of the higher row at k
  module _ (a b v u k l : ℕ) (ab : a ≤ b) (hb : b < rows) (kl : k ≤ l) (hl : l < cols) (al : IsNumber (e a l)) (bk : IsNumber (e b k)) where
    pub crossing : IsNumber (e a k) × IsNumber (e b l) × (sum v (e a k) + sum u (e b l) ≤ sum v (e a l) + sum u (e b k))
    crossing = let n = monge a b k l ab hb kl hl al bk in (n.0, n.1, omega (arith, n.2))

    -- where the higher row is strictly below, it is at every later column
    pub crossing_later : (IsNumber (e a k) → sum u (e b k) < sum v (e a k)) → IsNumber (e b l) × (sum u (e b l) < sum v (e a l))
    crossing_later h = let n = crossing in (n.1, omega (arith, n.2, h n.0))

    -- where the lower row is strictly below, it is at every earlier column
    pub crossing_earlier : (IsNumber (e b l) → sum v (e a l) < sum u (e b l)) → IsNumber (e a k) × (sum v (e a k) < sum u (e b k))
    crossing_earlier h = let n = crossing in (n.0, omega (arith, n.2, h n.1))
