-- The blocks of a size, tested for every size up to 24: each pair of places once, and few rows and columns in all.
--   pair_once spanned                      the blocks that have a pair of places
--   windows_inside                         a block's places are below m, and no place is row and column
--   rows_few cols_few                      the rows of all blocks, the columns
--   logarithm_is                           the logarithm that bounds them
use Rattle.std.specs.Prelude.{◌≡◌, refl, Bool, true, cond, ◌&&◌, ◌||◌, List, [], ◌∷◌, map, ◌⊎◌, ◌≢◌, ℕ, suc, ◌+◌, ◌-◌, ◌*◌, ◌^◌, ◌≤◌, ◌<◌, eqb, ltb, leb}
use Rattle.std.proofs.Common.{inl, inr, arith, ne_eqb, eqb-true, leb-true, ltb-true, le-ltb}
use Rattle.definitions.specs.Limits.{max_size}
use Rattle.definitions.specs.Lists.{all, every, total, Every}
use Rattle.definitions.specs.Blocks.{splits, splits_of, Window, windows, windows_of, logarithm_from, logarithm}
use Rattle.definitions.proofs.Laws.Members.{every_is, all_at}
use Rattle.logic.specs.Tests.{and_left, and_right, Truth, holds, fails, truth}
use Rattle.basics.specs.ListLaws.{Any}
use Rattle.splits.specs.Windows.{spans, tally, pairs, few, Logarithm, Inside, Spans}

-- places below m, and none is both a row and a column
unfoldable inside : ℕ → Window → Bool
inside m w = (leb (w.row0 + w.rows) m && leb (w.col0 + w.cols) m) && (leb (w.row0 + w.rows) w.col0 || leb (w.col0 + w.cols) w.row0)

-- ---- computed, for all sizes up to 24

pairs_tested : all pairs (suc max_size) ≡ true
unfolding all pairs windows_of windows splits_of splits tally spans
pairs_tested = refl

insides_tested : all (λ m. every (inside m) (windows_of m)) (suc max_size) ≡ true
unfolding all every inside windows_of windows splits_of splits
insides_tested = refl

rows_tested : all (few (λ w. w.rows)) (suc max_size) ≡ true
unfolding all few total windows_of windows splits_of splits logarithm logarithm_from
rows_tested = refl

cols_tested : all (few (λ w. w.cols)) (suc max_size) ≡ true
unfolding all few total windows_of windows splits_of splits logarithm logarithm_from
cols_tested = refl

logarithms_tested : all (λ m. leb m (2 ^ logarithm m) && (ltb m 2 || ltb (2 ^ (logarithm m - 1)) m)) (suc max_size) ≡ true
unfolding all logarithm logarithm_from
logarithms_tested = refl

-- ---- of each size

pub pair_once : (m i j : ℕ) → m ≤ max_size → i < m → j < m → i ≢ j → tally i j (windows_of m) ≡ 1
unfolding pairs
pair_once m i j l hi hj d =
    let each : ℕ → ℕ → Bool = λ i j. eqb (tally i j (windows_of m)) (cond (eqb i j) 0 1) in
    let t : each i j ≡ true = all_at (each i) m (all_at (λ i. all (each i) m) m (all_at pairs (suc max_size) pairs_tested m (omega arith)) i hi) j hj in
    eqb-true (tally i j (windows_of m)) 1 (simp (ne_eqb i j d) at t)

few_is : (f : Window → ℕ) → all (few f) (suc max_size) ≡ true → (m : ℕ) → m ≤ max_size → total (map f (windows_of m)) ≤ m * logarithm m
unfolding few
few_is f t m l = leb-true _ _ (all_at (few f) (suc max_size) t m (omega arith))

pub rows_few : (m : ℕ) → m ≤ max_size → total (map (λ w. w.rows) (windows_of m)) ≤ m * logarithm m
rows_few = few_is (λ w. w.rows) rows_tested

pub cols_few : (m : ℕ) → m ≤ max_size → total (map (λ w. w.cols) (windows_of m)) ≤ m * logarithm m
cols_few = few_is (λ w. w.cols) cols_tested

pub logarithm_is : (m : ℕ) → m ≤ max_size → Logarithm m
logarithm_is m l =
    let t : (leb m (2 ^ logarithm m) && (ltb m 2 || ltb (2 ^ (logarithm m - 1)) m)) ≡ true
    = all_at (λ m. leb m (2 ^ logarithm m) && (ltb m 2 || ltb (2 ^ (logarithm m - 1)) m)) (suc max_size) logarithms_tested m (omega arith) in
    record {
      enough = leb-true _ _ (and_left (leb m (2 ^ logarithm m)) _ t);
      tight = λ h. ltb-true _ _ (simp (le-ltb m 2 h) at (and_right (leb m (2 ^ logarithm m)) (ltb m 2 || ltb (2 ^ (logarithm m - 1)) m) t));
    }

-- ---- of each block

inside_is : (m : ℕ) (w : Window) → inside m w ≡ true → Inside m w
unfolding inside
inside_is m w h = record {
  rows_in = leb-true _ _ (and_left (leb (w.row0 + w.rows) m) (leb (w.col0 + w.cols) m) (and_left _ before h));
  cols_in_lem = leb-true _ _ (and_right (leb (w.row0 + w.rows) m) (leb (w.col0 + w.cols) m) (and_left _ before h));
  apart = go (truth (leb (w.row0 + w.rows) w.col0)) (and_right (leb (w.row0 + w.rows) m && leb (w.col0 + w.cols) m) before h);
}
  where
    before : Bool
    before = leb (w.row0 + w.rows) w.col0 || leb (w.col0 + w.cols) w.row0

    go : Truth (leb (w.row0 + w.rows) w.col0) → before ≡ true → (w.row0 + w.rows ≤ w.col0) ⊎ (w.col0 + w.cols ≤ w.row0)
    go (holds t) b = inl (leb-true _ _ t)
    go (fails t) b = inr (leb-true _ _ (simp t at b))

pub windows_inside : (m : ℕ) → m ≤ max_size → Every (Inside m) (windows_of m)
windows_inside m l =
    every_is (inside m) (Inside m) (inside_is m) (windows_of m) (all_at (λ m. every (inside m) (windows_of m)) (suc max_size) insides_tested m (omega arith))

spans_is : (i j : ℕ) (w : Window) → spans i j w ≡ true → Spans i j w
unfolding spans
spans_is i j w h =
    let a = and_left (leb w.row0 i && ltb i (w.row0 + w.rows)) (leb w.col0 j && ltb j (w.col0 + w.cols)) h in
    let b = and_right (leb w.row0 i && ltb i (w.row0 + w.rows)) (leb w.col0 j && ltb j (w.col0 + w.cols)) h in
    record {
      row_from = leb-true _ _ (and_left (leb w.row0 i) (ltb i (w.row0 + w.rows)) a);
      row_to = ltb-true _ _ (and_right (leb w.row0 i) (ltb i (w.row0 + w.rows)) a);
      col_from = leb-true _ _ (and_left (leb w.col0 j) (ltb j (w.col0 + w.cols)) b);
      col_to = ltb-true _ _ (and_right (leb w.col0 j) (ltb j (w.col0 + w.cols)) b);
    }

pub spanned : (i j : ℕ) (ws : List Window) → 0 < tally i j ws → Any (Spans i j) ws
unfolding tally
spanned i j [] h = absurd (omega arith)
spanned i j (w ∷ ws) h = go (truth (spans i j w)) (λ k. spanned i j ws k)
  where
    go : Truth (spans i j w) → (0 < tally i j ws → Any (Spans i j) ws) → Any (Spans i j) (w ∷ ws)
    go (holds t) ih = inl (spans_is i j w t)
    go (fails t) ih = inr (ih (simp t at h))
