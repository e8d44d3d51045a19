-- The columns that a new row wins.
--   won_number won_nowhere won_path   where the row has a path, and where it has none
--   won_later won_earlier   M2 for the parent of another column: what the search for them rests on
--   won_free free_above free_below   a column without a parent: it is won where the row has a path; where such columns lie
--   between_path won_between   M4: they lie together, but for closed columns
--   range_of_ends range   so they are the columns from a first one up to an end that are not closed
use Rattle.std.specs.Prelude.{◌≡◌, refl, Bool, true, false, List, ℕ, zero, suc, pred, ◌≤◌, ◌<◌, length}
use Rattle.std.proofs.Common.{◌∙◌, arith, lt-ltb, eq-eqb, ne_eqb}
use Rattle.std.proofs.Math.Logic.{⊎_elim}
use Rattle.std.proofs.lemmas.Bool.{eqb-false}
use Rattle.std.proofs.Math.Dec.{eqb}
use Rattle.definitions.specs.Limits.{sum, no_path}
use Rattle.definitions.specs.Metres.{IsNumber}
use Rattle.definitions.specs.Lists.{Every}
use Rattle.definitions.specs.Network.{Rectangle}
use Rattle.definitions.specs.Monge.{Monge, is_closed}
use Rattle.definitions.specs.Best.{Best, nobody, by}
use Rattle.definitions.specs.Model.{Activation, parent}
use Rattle.logic.specs.Tests.{clash, below_suc, split_at, Order, less, more, order, Truth, holds, fails, truth}
use Rattle.basics.specs.ListLaws.{all_not}
use Rattle.monge_laws.proofs.Inequality.{monge, crossing_later, crossing_earlier}
use Rattle.heap_laws.specs.Lesser.{beats}
use Rattle.heap_laws.proofs.Lesser.{beats_is}
use Rattle.heap_laws.specs.Parents.{row_at, label_at, sum_at, IsParent}
use Rattle.heap_laws.proofs.Parents.{parent_is, parent_nobody, row_in_lem}
use Rattle.heap_laws.specs.Won.{won, Convex, Range, SomeRange}

module _ (e : Rectangle) (xs : List Activation) (r v c : ℕ) where
  pub won_number : IsNumber (e r c) → won e xs r v c ≡ beats (sum v (e r c)) (parent e xs c)
  unfolding won
  won_number n = simp (ne_eqb (e r c) no_path n)

  pub won_nowhere : e r c ≡ no_path → won e xs r v c ≡ false
  unfolding won
  won_nowhere q = simp (eq-eqb (e r c) no_path q)

  pub won_path : won e xs r v c ≡ true → IsNumber (e r c)
  won_path h q = clash h (won_nowhere q)

  -- a column that is won is won against each activated row that has a path there
  won_each : (i : ℕ) → won e xs r v c ≡ true → i < length xs → IsNumber (e (row_at xs i) c) → sum v (e r c) < sum_at e xs c i
  won_each i h l n = go (parent e xs c) refl
    where
      go : (x : Best) → parent e xs c ≡ x → sum v (e r c) < sum_at e xs c i
      go nobody q = absurd (n (parent_nobody e xs c q i l))
      go (by p s) q = omega (arith, beats_is (sum v (e r c)) p s (parent e xs c) (rw (won_number (won_path h)) at h) q, (parent_is e xs c p s q).2.no_less i l n)

  -- and is won if it is against the parent
  won_parent : (p s : ℕ) → IsNumber (e r c) → parent e xs c ≡ by p s → sum v (e r c) < s → won e xs r v c ≡ true
  unfolding beats
  won_parent p s n q l = won_number n ∙ rw q (lt-ltb (sum v (e r c)) s l)

  -- or if there is none
  pub won_free : IsNumber (e r c) → parent e xs c ≡ nobody → won e xs r v c ≡ true
  unfolding beats
  won_free n q = won_number n ∙ rw q

-- ---- M4

module _ (e : Rectangle) (rows cols : ℕ) (ok : Monge e rows cols) (xs : List Activation) (in_rows : Every (λ a. a.row < rows) xs)
    (r v : ℕ) (hr : r < rows) where
  module _ (c d : ℕ) (cd : c ≤ d) (hd : d < cols) (p s : ℕ) where
    -- a row that wins column c wins every later one with a parent below the row
    pub won_later : parent e xs d ≡ by p s → p ≤ r → won e xs r v c ≡ true → won e xs r v d ≡ true
    won_later q pr h = go (parent_is e xs d p s q)
      where
        go : IsParent e xs d p s → won e xs r v d ≡ true
        go (i, z, g) =
            let x = crossing_later e rows cols ok (row_at xs i) r (label_at xs i) v c d (omega arith) hr cd hd g.path (won_path e xs r v c h) (won_each e xs r v c i h g.inside) in
            won_parent e xs r v d p s x.0 q (omega (arith, g.sum_is, x.1))

    -- a row that wins column d wins every earlier one with a parent above the row
    pub won_earlier : parent e xs c ≡ by p s → r ≤ p → won e xs r v d ≡ true → won e xs r v c ≡ true
    won_earlier q rp h = go (parent_is e xs c p s q)
      where
        go : IsParent e xs c p s → won e xs r v c ≡ true
        go (i, z, g) =
            let x = crossing_earlier e rows cols ok r (row_at xs i) v (label_at xs i) c d (omega arith) (row_in_lem xs in_rows i g.inside) cd hd (won_path e xs r v d h) g.path
            (won_each e xs r v d i h g.inside) in
            won_parent e xs r v c p s x.0 q (omega (arith, g.sum_is, x.1))

  -- a column without a parent where the row has a path lies after every column of a lower row, and before every column of a higher row
  module _ (c : ℕ) (hc : c < cols) (n : IsNumber (e r c)) (free : parent e xs c ≡ nobody) (d : ℕ) (hd : d < cols) (p s : ℕ) (own : parent e xs d ≡ by p s) where
    pub free_above : p ≤ r → d < c
    free_above pr = go (parent_is e xs d p s own) (order d c)
      where
        go : IsParent e xs d p s → Order d c → d < c
        go (i, z, g) (less _ l) = l
        go (i, z, g) (more _ l) = absurd ((monge e rows cols ok (row_at xs i) r c d (omega arith) hr l hd g.path n).0 (parent_nobody e xs c free i g.inside))

    pub free_below : r ≤ p → c < d
    free_below rp = go (parent_is e xs d p s own) (order c d)
      where
        go : IsParent e xs d p s → Order c d → c < d
        go (i, z, g) (less _ l) = l
        go (i, z, g) (more _ l) = absurd ((monge e rows cols ok r (row_at xs i) d c (omega arith) (row_in_lem xs in_rows i g.inside) l hc n g.path).1 (parent_nobody e xs c free i g.inside))

  -- where some row has a path at a column between two at which the row has one, the row has one too
  pub between_path : (a c b : ℕ) → a ≤ c → c ≤ b → b < cols → is_closed e rows c ≡ false → IsNumber (e r a) → IsNumber (e r b) → IsNumber (e r c)
  unfolding is_closed
  between_path a c b ac cb hb not_closed na nb = go (all_not (λ i. eqb (e i c) no_path) rows not_closed)
    where
      go : (q : ℕ) × (q < rows) × (eqb (e q c) no_path ≡ false) → IsNumber (e r c)
      go (q, hq, t) = ⊎_elim
          (λ (l : q < r). (monge e rows cols ok q r a c (omega arith) hr ac (omega arith) (eqb-false (e q c) no_path t) na).1)
          (λ (l : r ≤ q). (monge e rows cols ok r q c b l hq cb hb nb (eqb-false (e q c) no_path t)).0)
          (split_at q r)

  -- a column between has a parent on one side of the row, or none
  pub won_between : Convex (won e xs r v) (is_closed e rows) cols
  won_between a c b ac cb hb not_closed ha hb' = go (parent e xs c) refl
    where
      go : (x : Best) → parent e xs c ≡ x → won e xs r v c ≡ true
      go nobody q = won_free e xs r v c (between_path a c b ac cb hb not_closed (won_path e xs r v a ha) (won_path e xs r v b hb')) q
      go (by p s) q = ⊎_elim
          (λ (l : p < r). won_later a c ac (omega arith) p s q (omega arith) ha)
          (λ (l : r ≤ p). won_earlier c b cb hb p s q l hb')
          (split_at p r)

-- ---- a range

-- from its two ends
pub range_of_ends : (p out : ℕ → Bool) (n first end : ℕ) → Convex p out n → first < end → end ≤ n → p first ≡ true → p (pred end) ≡ true
    → ((c : ℕ) → c < first → p c ≡ false) → ((c : ℕ) → end ≤ c → c < n → p c ≡ false) → Range p out n first end
range_of_ends p out n first end h l m x y before after = record {
  ordered = omega arith;
  inside = m;
  within = λ c a b o. h first c (pred end) a (omega arith) (omega arith) o x y;
  before = before;
  after = after;
}

pub range : (p out : ℕ → Bool) (n : ℕ) → Convex p out n → SomeRange p out n
range p out zero h = (
  0,
  0,
  record {
    ordered = omega arith;
    inside = omega arith;
    within = λ c a b. absurd (omega arith);
    before = λ c a. absurd (omega arith);
    after = λ c a b. absurd (omega arith);
  },
  λ l. absurd (omega arith),
)
range p out (suc n) h = go (range p out n (λ a c b l m k. h a c b l m (omega arith))) (truth (p n))
  where
    go : SomeRange p out n → Truth (p n) → SomeRange p out (suc n)
    go (f, e, g, ends) (fails t) = (
      f,
      e,
      record {
        ordered = g.ordered;
        inside = omega arith;
        within = g.within;
        before = g.before;
        after = λ c a b. ⊎_elim (λ (l : c < n). g.after c a l) (λ q. rw q t) (below_suc c n b);
      },
      ends,
    )
    go (f, e, g, ends) (holds t) = last (order f e)
      where
        last : Order f e → SomeRange p out (suc n)
        last (less _ l) = (
          f,
          suc n,
          record {
            ordered = omega arith;
            inside = omega arith;
            within = λ c a b o. h f c n a (omega arith) (omega arith) o (ends l).0 t;
            before = g.before;
            after = λ c a b. absurd (omega arith);
          },
          λ _. ((ends l).0, t),
        )
        last (more _ l) = (
          n,
          suc n,
          record {
            ordered = omega arith;
            inside = omega arith;
            within = λ c a b o. let q : c ≡ n = omega arith in rw q t;
            before = λ c a. ⊎_elim (λ (m : c < f). g.before c m) (λ (m : f ≤ c). g.after c (omega arith) a) (split_at c f);
            after = λ c a b. absurd (omega arith);
          },
          λ _. (t, t),
        )
