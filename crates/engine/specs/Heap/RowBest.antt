-- Stretches of one row: sums through it, and its best, the lowest column of least sum.
--   sum_at row_sums                              a column's sum through a row
--   best_first best_keep best_lower            the lowest column of least length, of those looked at so far
--   best_is_row                                it is what `least_from` finds among the sums of the row
--   StretchFits HasIndex                       a stretch that can be read; the index that is asked
--   drawn drawn_is                             the interval that is made of it
--   RowBest drawn_best best_moves              an interval carries the best of its stretch of its parent's row, wherever it stands
use Rattle.std.specs.Prelude.{◌≡◌, refl, List, ℕ, suc, ◌+◌, ◌-◌, ◌≤◌, ◌<◌, length, get_or}
use Rattle.std.proofs.Common.{sym, subst, ⊎_elim, le_refl, arith}
use Rattle.definitions.specs.Limits.{row_places, sum}
use Rattle.definitions.specs.Metres.{IsNumber}
use Rattle.definitions.specs.Best.{Best, nobody, by, least_from}
use Rattle.definitions.specs.Intervals.{Interval, interval, first_column, last_column}
use Rattle.definitions.specs.Model.{Listed}
use Rattle.definitions.specs.Index.{IsLeast}
use Rattle.definitions.specs.HeldModel.{lent_entry}
use Rattle.definitions.proofs.Laws.LeastLaws.{Found, found_is}
use Rattle.logic.specs.Tests.{split_at}
use Rattle.index.specs.HeldRows.{Indexed}
use Rattle.engine.specs.Heap.WordLaws.{word_end}

-- column c's sum through row r, whose label lies at its place
unfoldable pub sum_at : List (List ℕ) → ℕ → List ℕ → ℕ → ℕ → ℕ
sum_at rows col0 labels r c = sum (get_or labels r 0) (lent_entry rows col0 r c)

-- with the row as its parent
abbrev pub row_sums : List (List ℕ) → ℕ → List ℕ → ℕ → ℕ → Best
row_sums rows col0 labels r c = by r (sum_at rows col0 labels r c)

-- ---- the least length

pub best_first : (f : ℕ → ℕ) (c : ℕ) → IsLeast f c (c + 1) c
best_first f c = record {
  low = le_refl c;
  high = omega arith;
  no_less = λ d a b. let q : d ≡ c = omega arith in rw q (le_refl (f c));
  no_lower = λ d a b. absurd (omega arith);
}

-- one column more: it wins only by a smaller length
module _ (f : ℕ → ℕ) (first c b : ℕ) (h : IsLeast f first c b) where
  pub best_lower : f c < f b → IsLeast f first (c + 1) c
  best_lower l = record {
    low = omega (arith, h.low, h.high);
    high = omega arith;
    no_less = λ d x y. ⊎_elim (λ (z : d < c). omega (arith, h.no_less d x z)) (λ (z : c ≤ d). let q : d ≡ c = omega arith in rw q (le_refl (f c))) (split_at d c);
    no_lower = λ d x y. omega (arith, h.no_less d x y);
  }

  pub best_keep : f b ≤ f c → IsLeast f first (c + 1) b
  best_keep l = record {
    low = h.low;
    high = omega (arith, h.high);
    no_less = λ d x y. ⊎_elim (λ (z : d < c). h.no_less d x z) (λ (z : c ≤ d). let q : d ≡ c = omega arith in rw q l) (split_at d c);
    no_lower = h.no_lower;
  }

-- ---- the least sum

pub best_is_row : (rows : List (List ℕ)) (col0 : ℕ) (labels : List ℕ) (p first n r : ℕ) → IsLeast (lent_entry rows col0 p) first (first + n) r
    → least_from (row_sums rows col0 labels p) first n ≡ by r (sum_at rows col0 labels p r)
unfolding sum_at
best_is_row rows col0 labels p first n r h = go (least_from (row_sums rows col0 labels p) first n) (found_is (row_sums rows col0 labels p) first n)
  where
    go : (x : Best) → Found (row_sums rows col0 labels p) first n x → x ≡ by r (sum_at rows col0 labels p r)
    go nobody none = let q : by p (sum_at rows col0 labels p r) ≡ nobody = none r h.low h.high in let z : ◌≡◌ {A = ℕ} 0 1 = cc in absurd (omega arith)
    go (by k s) found =
        let q : by p (sum_at rows col0 labels p k) ≡ by found.holder s = found.here in
        let e : sum_at rows col0 labels p k ≡ s = cc in
        let a : s ≤ sum_at rows col0 labels p r = found.no_less r p (sum_at rows col0 labels p r) h.low h.high refl in
        let b = h.no_less k found.low found.high in
        let up : k < r → ⊥ = λ l. omega (arith, h.no_lower k found.low l) in
        let down : r < k → ⊥ = λ l. omega (arith, found.no_lower r p (sum_at rows col0 labels p r) h.low l refl) in
        let same : k ≡ r = ⊎_elim (λ (l : k < r). absurd (up l)) (λ (l : r ≤ k). ⊎_elim (λ (m : r < k). absurd (down m)) (λ (m : k ≤ r). omega arith) (split_at r k)) (split_at k r) in
        rw (← e, same)

-- ---- intervals

-- the columns `first` up to, not including, `end` of row p can be read, the row has a path at each, and their sums fit a word
pub record StretchFits (rows : List (List ℕ)) (col0 : ℕ) (labels : List ℕ) (p first end : ℕ) : Type 0 where
  pub row_in_lem : p < length rows
  pub labelled : length rows ≤ length labels
  pub small : p < word_end
  pub columns : col0 + end ≤ row_places
  pub paths : (c : ℕ) → first ≤ c → c < end → IsNumber (lent_entry rows col0 p c)
  pub fits : (c : ℕ) → first ≤ c → c < end → sum_at rows col0 labels p c < word_end

-- the index that a best is asked of: that of these rows' columns from col0 on
pub record HasIndex (index rows : List (List ℕ)) (col0 cols : ℕ) : Type 0 where
  pub inside : col0 + cols ≤ row_places
  pub indexed : Indexed index rows col0 cols

-- they as an interval, with its best
abbrev pub drawn : List (List ℕ) → ℕ → List ℕ → ℕ → ℕ → ℕ → Listed
drawn rows col0 labels p first end = record { interval = interval p first (end - 1); best = least_from (row_sums rows col0 labels p) first (end - first) }

-- as the code has it
pub drawn_is : (rows : List (List ℕ)) (col0 : ℕ) (labels : List ℕ) (p first end c s : ℕ) → IsLeast (lent_entry rows col0 p) first end c → s ≡ sum_at rows col0 labels p c
    → record { interval = interval p first (end - 1); best = by c s } ≡ drawn rows col0 labels p first end
drawn_is rows col0 labels p first end c s h q =
    let z : first + (end - first) ≡ end = omega (arith, h.low, h.high) in
    rw (q, best_is_row rows col0 labels p first (end - first) c (rw z h))

abbrev parent_of : Interval → ℕ
parent_of (interval p f l) = p

-- the best of an interval is that of its columns in its parent's row
abbrev pub RowBest : List (List ℕ) → ℕ → List ℕ → Listed → Type 0
RowBest rows col0 labels u =
    u.best ≡ least_from (row_sums rows col0 labels (parent_of u.interval)) (first_column u.interval) (suc (last_column u.interval) - first_column u.interval)

pub drawn_best : (rows : List (List ℕ)) (col0 : ℕ) (labels : List ℕ) (p first end : ℕ) → first < end → RowBest rows col0 labels (drawn rows col0 labels p first end)
drawn_best rows col0 labels p first end l = let z : suc (end - 1) - first ≡ end - first = omega arith in rw z

pub best_moves : (rows : List (List ℕ)) (col0 : ℕ) (labels : List ℕ) (x y : Listed) → x ≡ y → RowBest rows col0 labels y → RowBest rows col0 labels x
best_moves rows col0 labels x y q h = subst (RowBest rows col0 labels) (sym q) h
