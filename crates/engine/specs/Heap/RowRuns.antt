-- A stretch of one row as intervals: the longest runs of neighbouring columns at which the row has a path (document 02, request 7).
--   open_sums open-..                        the sums of a row, nobody where it has no path
--   has_path TurnsAt wanted unwanted         the first column at which it has a path, or has none
--   next_run one_run                        the first run of a stretch; a stretch that is one run
--   CountKeeps count-..                     how many runs there are, one after the other
--   RowReads PutRunLeaves PutRunsNeeds PutRunsLeaves runs-..    they are written, each with its best; the least of these sums
use Rattle.std.specs.Prelude.{◌≡◌, Bool, false, cond, not, ◌&&◌, eqb, get_or}
use Rattle.std.proofs.Math.Path.{refl, sym, ap}
use Rattle.std.proofs.Common.{◌∙◌, inl, inr, length-append}
use Rattle.std.proofs.Math.Bool.{true}
use Rattle.std.specs.Bool.{beq}
use mathlib.Core.List.{List, [], ◌∷◌, ◌++◌, append_assoc}
use Rattle.std.proofs.Math.Logic.{⊎_elim}
use Prim.Native.Nat.{ℕ, suc, pred, ◌+◌, ◌-◌, ◌≤◌, ◌<◌}
use Rattle.std.proofs.Math.Nat.{le_refl}
use native.Mathlib.Omega.{arith}
use borrow.Author.Tests.{ne_eqb, leb-true}
use Rattle.std.proofs.Math.Dec.{leb}
use Rattle.std.proofs.Math.ListN.{length}
use Rattle.definitions.specs.Limits.{row_places, no_path, below, unreached}
use Rattle.definitions.specs.Metres.{IsNumber}
use Rattle.definitions.specs.Lists.{Every}
use Rattle.definitions.specs.Best.{Best, nobody, by, lesser, least_from}
use Rattle.definitions.specs.Intervals.{Interval, interval, runs}
use Rattle.definitions.specs.Model.{Listed, through}
use Rattle.definitions.specs.HeapWords.{heap_words, best_column_at, best_sum_at, interval_at, span, listed_at}
use Rattle.definitions.specs.HeldModel.{lent_entry}
use Rattle.definitions.proofs.Laws.LeastLaws.{Found, found_is, least_from_same}
use Rattle.definitions.proofs.Laws.RunProofs.{runs_none, tag, lookup, lookup_runs, Longest, runs_longest}
use Rattle.logic.specs.Tests.{clash, and_left, and_right, split_at, Truth, holds, fails, truth, Equal, equal, differ, equality, Order, less, more, order}
use Rattle.heap_laws.proofs.Lesser.{lesser_nobody}
use Rattle.heap_laws.proofs.Parents.{through_some, through_none}
use Rattle.heap_laws.proofs.Sides.{runs_break, runs_one}
use Rattle.heap_laws.specs.Activate.{labelled}
use Rattle.index.specs.StretchHalves.{least_from_split, least_from_nobody}
use Rattle.engine.specs.Heap.WordLaws.{word_end, span_same, span_cut, length_span, marks_same, marks_then, Outside, PutLeaves}
use Rattle.engine.specs.Heap.RowBest.{sum_at, row_sums, StretchFits, drawn, RowBest, drawn_best, best_moves}

-- ---- the sums of a row

abbrev pub open_sums : List (List ℕ) → ℕ → List ℕ → ℕ → ℕ → Best
open_sums rows col0 labels row c = through (lent_entry rows col0) c (labelled row (get_or labels row 0))

-- the row has a path at column c
unfoldable pub has_path : List (List ℕ) → ℕ → ℕ → ℕ → Bool
has_path rows col0 row c = not (eqb (lent_entry rows col0 row c) no_path)

pub path_is : (rows : List (List ℕ)) (col0 row c : ℕ) → has_path rows col0 row c ≡ true → IsNumber (lent_entry rows col0 row c)
unfolding has_path
path_is rows col0 row c t = go (equality (lent_entry rows col0 row c) no_path)
  where
    go : Equal (lent_entry rows col0 row c) no_path → IsNumber (lent_entry rows col0 row c)
    go (equal u q) = absurd (clash t (simp u))
    go (differ u n) = n

pub path_from : (rows : List (List ℕ)) (col0 row c : ℕ) → IsNumber (lent_entry rows col0 row c) → has_path rows col0 row c ≡ true
unfolding has_path
path_from rows col0 row c n = simp (ne_eqb _ _ n)

pub no_path_is : (rows : List (List ℕ)) (col0 row c : ℕ) → has_path rows col0 row c ≡ false → lent_entry rows col0 row c ≡ no_path
unfolding has_path
no_path_is rows col0 row c t = go (equality (lent_entry rows col0 row c) no_path)
  where
    go : Equal (lent_entry rows col0 row c) no_path → lent_entry rows col0 row c ≡ no_path
    go (equal u q) = q
    go (differ u n) = absurd (clash (simp u) t)

module _ (rows : List (List ℕ)) (col0 : ℕ) (labels : List ℕ) (row : ℕ) where
  pub open_some : (c : ℕ) → has_path rows col0 row c ≡ true → open_sums rows col0 labels row c ≡ row_sums rows col0 labels row c
  unfolding sum_at
  open_some c t = through_some (lent_entry rows col0) c (labelled row (get_or labels row 0)) (path_is rows col0 row c t)

  pub open_none : (c : ℕ) → has_path rows col0 row c ≡ false → open_sums rows col0 labels row c ≡ nobody
  open_none c t = through_none (lent_entry rows col0) c (labelled row (get_or labels row 0)) (no_path_is rows col0 row c t)

  tag_some : (c : ℕ) → has_path rows col0 row c ≡ true → tag (open_sums rows col0 labels row c) ≡ suc row
  unfolding tag
  tag_some c t = ap tag (open_some c t)

  tag_path : (c p : ℕ) → tag (open_sums rows col0 labels row c) ≡ suc p → has_path rows col0 row c ≡ true
  unfolding tag
  tag_path c p q = go (truth (has_path rows col0 row c))
    where
      go : Truth (has_path rows col0 row c) → has_path rows col0 row c ≡ true
      go (holds t) = t
      go (fails t) = absurd (omega (arith, sym q ∙ ap tag (open_none c t)))

-- ---- where paths begin and end

-- column r is the first from `from` up to `end` at which the row has a path, or has none, whichever is wanted; `end` if there is none
pub record TurnsAt (rows : List (List ℕ)) (col0 row : ℕ) (want : Bool) (from end r : ℕ) : Type 0 where
  pub low : from ≤ r
  pub high : r ≤ end
  pub before : (c : ℕ) → from ≤ c → c < r → has_path rows col0 row c ≡ not want
  pub here : r < end → has_path rows col0 row r ≡ want

-- as the code compares them
pub wanted : (t want : Bool) → beq t want ≡ true → t ≡ want
wanted true true q = refl
wanted true false q = absurd (clash q refl)
wanted false true q = absurd (clash q refl)
wanted false false q = refl

pub unwanted : (t want : Bool) → beq t want ≡ false → t ≡ not want
unwanted true true q = absurd (clash refl q)
unwanted true false q = refl
unwanted false true q = refl
unwanted false false q = absurd (clash refl q)

-- a run has a column
pub run_some : (rows : List (List ℕ)) (col0 row c e end : ℕ) → has_path rows col0 row c ≡ true → c < end → TurnsAt rows col0 row false c end e → c < e
run_some rows col0 row c e end here ce run =
    ⊎_elim (λ (l : c < e). l) (λ (l : e ≤ c). let z : e ≡ c = omega (arith, run.low) in absurd (clash here (rw z at (run.here (omega arith))))) (split_at c e)

-- ---- runs

module _ (rows : List (List ℕ)) (col0 : ℕ) (labels : List ℕ) (row : ℕ) where
  -- the intervals of the columns from c up to, not including, e
  abbrev pub row_runs : ℕ → ℕ → List Interval
  row_runs c e = runs (open_sums rows col0 labels row) c (e - c)

  -- from c up to e it has a path, from e up to d none; where d is not the end it has one there
  module _ (c e d end : ℕ) (here : has_path rows col0 row c ≡ true) (ce : c < end) (run : TurnsAt rows col0 row false c end e) (gap : TurnsAt rows col0 row true e end d) where
    whole_run : runs (open_sums rows col0 labels row) c (e - c) ≡ interval row c (e - 1) ∷ []
    whole_run =
        let z : suc (e - c - 1) ≡ e - c = omega (arith, run_some rows col0 row c e end here ce run) in
        let y : c + (e - c - 1) ≡ e - 1 = omega (arith, run_some rows col0 row c e end here ce run) in
        rw (z, y) at (runs_one (open_sums rows col0 labels row) row c (e - c - 1) (λ k a b. tag_some rows col0 labels row k (run.before k a (omega arith))))

    past_gap : runs (open_sums rows col0 labels row) e (end - e) ≡ runs (open_sums rows col0 labels row) d (end - d)
    unfolding tag
    past_gap =
        let z : d - e + (end - d) ≡ end - e = omega (arith, gap.low, gap.high) in
        let y : e + (d - e) ≡ d = omega (arith, gap.low) in
        rw (z, y) at (runs_break (open_sums rows col0 labels row) e (d - e) (end - d) breaks
        ∙ ap (λ (vs : List Interval). vs ++ runs (open_sums rows col0 labels row) (e + (d - e)) (end - d))
        (runs_none (open_sums rows col0 labels row) e (d - e) (λ k a b. open_none rows col0 labels row k (gap.before k a (omega arith)))))
      where
        breaks : (p : ℕ) → 0 < e + (d - e) → e + (d - e) < e + (d - e) + (end - d) → tag (open_sums rows col0 labels row (pred (e + (d - e)))) ≡ suc p → tag (open_sums rows col0 labels row (e + (d - e))) ≡ suc p → ⊥
        breaks p a b x y =
            let q : e + (d - e) ≡ d = omega (arith, gap.low) in
            let path : has_path rows col0 row d ≡ true = tag_path rows col0 labels row d p (rw q at y) in
            ⊎_elim
            (λ (l : e < d). clash (tag_path rows col0 labels row (pred d) p (rw q at x)) (gap.before (pred d) (omega arith) (omega arith)))
            (λ (l : d ≤ e). let z : d ≡ e = omega (arith, gap.low) in clash (rw z at path) (run.here (omega arith)))
            (split_at e d)

    pub next_run : row_runs c end ≡ interval row c (e - 1) ∷ row_runs d end
    unfolding tag
    next_run =
        let z : e - c + (end - e) ≡ end - c = omega (arith, run.low, run.high) in
        let y : c + (e - c) ≡ e = omega (arith, run.low) in
        rw (z, y) at (runs_break (open_sums rows col0 labels row) c (e - c) (end - e) breaks)
        ∙ ap (λ (vs : List Interval). vs ++ runs (open_sums rows col0 labels row) e (end - e)) whole_run ∙ ap (λ (vs : List Interval). interval row c (e - 1) ∷ vs) past_gap
      where
        breaks : (p : ℕ) → 0 < c + (e - c) → c + (e - c) < c + (e - c) + (end - e) → tag (open_sums rows col0 labels row (pred (c + (e - c)))) ≡ suc p → tag (open_sums rows col0 labels row (c + (e - c))) ≡ suc p → ⊥
        breaks p a b x y =
            let q : c + (e - c) ≡ e = omega (arith, run.low) in
            clash (tag_path rows col0 labels row e p (rw q at y)) (run.here (omega arith))

  -- no column is left
  pub no_runs : (c end : ℕ) → end ≤ c → row_runs c end ≡ []
  unfolding runs
  no_runs c end l = let z : end - c ≡ 0 = omega arith in rw z

  -- A stretch with a path at both ends that is one run has a path everywhere.
  module _ (c end : ℕ) (ce : c < end) (here : has_path rows col0 row c ≡ true) (there : has_path rows col0 row (end - 1) ≡ true) (one : length (row_runs c end) ≡ 1) where
    found : (vs : List Interval) → length vs ≡ 1 → Every (Longest (open_sums rows col0 labels row) c (end - c)) vs → lookup c vs ≡ suc row → lookup (end - 1) vs ≡ suc row
        → (vs ≡ interval row c (end - 1) ∷ []) × ((k : ℕ) → c ≤ k → k < end → has_path rows col0 row k ≡ true)
    unfolding lookup
    found [] n g x y = absurd (omega arith)
    found (v ∷ u ∷ vs) n g x y = absurd (omega arith)
    found (interval p f l ∷ []) n g x y = go (truth (leb f c && leb c l)) (truth (leb f (end - 1) && leb (end - 1) l))
      where
        go : Truth (leb f c && leb c l) → Truth (leb f (end - 1) && leb (end - 1) l)
            → (interval p f l ∷ [] ≡ interval row c (end - 1) ∷ []) × ((k : ℕ) → c ≤ k → k < end → has_path rows col0 row k ≡ true)
        go (fails t) _ = absurd (omega (arith, simp t at x))
        go (holds t) (fails u) = absurd (omega (arith, simp u at y))
        go (holds t) (holds u) =
            let q : p ≡ row = omega (arith, simp t at x) in
            let a : f ≤ c = leb-true f c (and_left (leb f c) (leb c l) t) in
            let b : end - 1 ≤ l = leb-true (end - 1) l (and_right (leb f (end - 1)) (leb (end - 1) l) u) in
            let i : f ≡ c = omega (arith, g.0.low) in
            let j : l ≡ end - 1 = omega (arith, g.0.high) in
            (rw (q, i, j), λ k m n. tag_path rows col0 labels row k p (g.0.owned k (omega arith) (omega arith)))

    pub one_run : (row_runs c end ≡ interval row c (end - 1) ∷ []) × ((k : ℕ) → c ≤ k → k < end → has_path rows col0 row k ≡ true)
    one_run = found (row_runs c end) one (runs_longest (open_sums rows col0 labels row) c (end - c))
        (lookup_runs (open_sums rows col0 labels row) c (end - c) c (le_refl c) (omega arith) ∙ tag_some rows col0 labels row c here)
        (lookup_runs (open_sums rows col0 labels row) c (end - c) (end - 1) (omega arith) (omega arith) ∙ tag_some rows col0 labels row (end - 1) there)

  -- one with a path somewhere has a run
  pub some_run : (c end : ℕ) → c < end → has_path rows col0 row c ≡ true → 0 < length (row_runs c end)
  unfolding lookup
  some_run c end l t = go (row_runs c end) (lookup_runs (open_sums rows col0 labels row) c (end - c) c (le_refl c) (omega arith) ∙ tag_some rows col0 labels row c t)
    where
      go : (vs : List Interval) → lookup c vs ≡ suc row → 0 < length vs
      go [] q = absurd (omega arith)
      go (v ∷ vs) q = omega arith

  -- one with a path everywhere is one run
  pub full_run : (c end : ℕ) → c < end → ((k : ℕ) → c ≤ k → k < end → has_path rows col0 row k ≡ true) → length (row_runs c end) ≡ 1
  full_run c end l paths =
      let z : suc (end - c - 1) ≡ end - c = omega arith in
      ap length (rw z at (runs_one (open_sums rows col0 labels row) row c (end - c - 1) (λ k a b. tag_some rows col0 labels row k (paths k a (omega arith)))))

-- ---- counting them

-- n runs lie before column c, which begins the next one, if any is left; labels do not matter
pub record CountKeeps (rows : List (List ℕ)) (col0 row first end n c : ℕ) : Type 0 where
  pub low : first ≤ c
  pub high : c ≤ end
  pub path : c < end → has_path rows col0 row c ≡ true
  pub is : (labels : List ℕ) → n + length (row_runs rows col0 labels row c end) ≡ length (row_runs rows col0 labels row first end)

module _ (rows : List (List ℕ)) (col0 row first end : ℕ) where
  pub count_begins : first ≤ end → has_path rows col0 row first ≡ true → CountKeeps rows col0 row first end 0 first
  count_begins l t = record { low = le_refl first; high = l; path = λ _. t; is = λ labels. omega arith }

  pub count_next : (n c e d : ℕ) → c < end → CountKeeps rows col0 row first end n c → TurnsAt rows col0 row false c end e → TurnsAt rows col0 row true e end d
      → CountKeeps rows col0 row first end (n + 1) d
  count_next n c e d l h run gap = record {
    low = omega (arith, h.low, run.low, gap.low);
    high = gap.high;
    path = gap.here;
    is = λ labels. omega (arith, h.is labels, ap length (next_run rows col0 labels row c e d end (h.path l) l run gap));
  }

  pub count_done : (n c : ℕ) → end ≤ c → CountKeeps rows col0 row first end n c → (labels : List ℕ) → n ≡ length (row_runs rows col0 labels row first end)
  count_done n c l h labels = omega (arith, h.is labels, ap length (no_runs rows col0 labels row c end l))

-- ---- writing them

-- the columns of a row before `end` can be read, and the sums fit where it has a path
pub record RowReads (rows : List (List ℕ)) (col0 : ℕ) (labels : List ℕ) (row end : ℕ) : Type 0 where
  pub row_in_lem : row < length rows
  pub labelled : length rows ≤ length labels
  pub small : row < word_end
  pub columns : col0 + end ≤ row_places
  pub fits : (c : ℕ) → c < end → IsNumber (lent_entry rows col0 row c) → sum_at rows col0 labels row c < word_end

pub stretch_fits : (rows : List (List ℕ)) (col0 : ℕ) (labels : List ℕ) (row end : ℕ) → RowReads rows col0 labels row end → (c e : ℕ) → e ≤ end
    → ((k : ℕ) → c ≤ k → k < e → has_path rows col0 row k ≡ true) → StretchFits rows col0 labels row c e
stretch_fits rows col0 labels row end r c e l paths = record {
  row_in_lem = r.row_in_lem;
  labelled = r.labelled;
  small = r.small;
  columns = omega (arith, r.columns);
  paths = λ k a b. path_is rows col0 row k (paths k a b);
  fits = λ k a b. r.fits k (omega arith) (path_is rows col0 row k (paths k a b));
}

-- v is u with these columns at place k, and r is the lesser of s and their best sum
pub record PutRunLeaves (u v : List ℕ) (rows : List (List ℕ)) (col0 : ℕ) (labels : List ℕ) (k row first end s r : ℕ) : Type 0 where
  pub put : PutLeaves u v k (drawn rows col0 labels row first end)
  pub small : best_sum_at v k < word_end
  pub least : r ≡ cond (below (best_sum_at v k) s) (best_sum_at v k) s

-- the runs of the columns from `first` up to `end`, so many, have room from `place` on
pub record PutRunsNeeds (u : List ℕ) (rows : List (List ℕ)) (col0 : ℕ) (labels : List ℕ) (row place number first end : ℕ) : Type 0 where
  pub room : heap_words (place + number) ≤ length u
  pub places : place + number < word_end
  pub reads : RowReads rows col0 labels row end
  pub some : first < end
  pub at_first : has_path rows col0 row first ≡ true
  pub at_last : has_path rows col0 row (end - 1) ≡ true
  pub number_is : number ≡ length (row_runs rows col0 labels row first end)

-- the least sum so far; the largest word where there is none
abbrev pub LeastSum : ℕ → Best → Type 0
LeastSum s nobody = s ≡ unreached
LeastSum s (by k t) = s ≡ t

-- v is u with the runs of the row's columns from `first` up to `end` at the places from `place` on, so many; `sum` is the least of their sums
pub record PutRunsLeaves (u v : List ℕ) (rows : List (List ℕ)) (col0 : ℕ) (labels : List ℕ) (row place number first end sum : ℕ) : Type 0 where
  pub outside : Outside u v place (place + number)
  pub here : span v place number ≡ row_runs rows col0 labels row first end
  pub bests : (j : ℕ) → place ≤ j → j < place + number → RowBest rows col0 labels (listed_at v j)
  pub least : (b : ℕ) × (least_from (open_sums rows col0 labels row) first (end - first) ≡ by b sum)

-- the same while the next one, from column c on, goes to place k
pub record RunsKeeps (u v : List ℕ) (rows : List (List ℕ)) (col0 : ℕ) (labels : List ℕ) (row place number first end k c s : ℕ) : Type 0 where
  pub low : place ≤ k
  pub high : k < place + number
  pub from : first ≤ c
  pub inside : c < end
  pub path : has_path rows col0 row c ≡ true
  pub outside : Outside u v place k
  pub is : span v place (k - place) ++ row_runs rows col0 labels row c end ≡ row_runs rows col0 labels row first end
  pub bests : (j : ℕ) → place ≤ j → j < k → RowBest rows col0 labels (listed_at v j)
  pub least : LeastSum s (least_from (open_sums rows col0 labels row) first (c - first))

-- one interval more
outside_more : (u v v' : List ℕ) (place k : ℕ) (x : Listed) → place ≤ k → Outside u v place k → PutLeaves v v' k x → Outside u v' place (k + 1)
outside_more u v v' place k x l o p = record {
  long = p.outside.long ∙ o.long;
  counted = p.outside.counted ∙ o.counted;
  marked = marks_then p.outside.marked o.marked;
  same = λ j a. ⊎_elim
      (λ (b : j < place). p.outside.same j (inl (omega arith)) ∙ o.same j (inl b))
      (λ (b : k + 1 ≤ j). p.outside.same j (inr b) ∙ o.same j (inr (omega arith)))
      a;
}

span_more : (u v v' : List ℕ) (place k : ℕ) (x : Listed) → place ≤ k → Outside u v place k → PutLeaves v v' k x → span v' place (k + 1 - place) ≡ span v place (k - place) ++ (x.interval ∷ [])
unfolding span
span_more u v v' place k x l o p =
    let z : k - place + 1 ≡ k + 1 - place = omega arith in
    let y : place + (k - place) ≡ k = omega arith in
    let front : span v' place (k - place) ≡ span v place (k - place) = span_same v' v place place (k - place) (λ j a. p.outside.same (place + j) (inl (omega arith))) in
    let last : interval_at v' k ≡ x.interval = ap (λ (a : Listed). a.interval) p.here in
    let whole : span v' place (k - place + 1) ≡ span v place (k - place) ++ (x.interval ∷ []) = rw (span_cut v' place (k - place) 1, y, last, front) refl in
    rw z at whole

-- the lesser of the least sum so far and that of one run more
least_more : (x : Best) (s b t s' : ℕ) → LeastSum s x → t < word_end → s' ≡ cond (below t s) t s → LeastSum s' (lesser x (by b t))
unfolding lesser
least_more nobody s b t s' h l q = go (order t s)
  where
    go : Order t s → s' ≡ t
    go (less z _) = simp z at q
    go (more z m) = (simp z at q) ∙ omega arith
least_more (by k r) s b t s' h l q = go (order t r)
  where
    go : Order t r → LeastSum s' (cond (below t r) (by b t) (by k r))
    go (less z _) = simp z (simp z at (rw h at q))
    go (more z _) = simp z (simp z at (rw h at q))

module _ (u : List ℕ) (rows : List (List ℕ)) (col0 : ℕ) (labels : List ℕ) (row place number first end : ℕ) where
  pub runs_begin : first < end → has_path rows col0 row first ≡ true → number ≡ length (row_runs rows col0 labels row first end) → 0 < number
      → RunsKeeps u u rows col0 labels row place number first end place first unreached
  unfolding span least_from
  runs_begin l t n some = record {
    low = le_refl place;
    high = omega arith;
    from = le_refl first;
    inside = l;
    path = t;
    outside = record { long = refl; counted = refl; marked = marks_same u; same = λ k o. refl };
    is = let z : place - place ≡ 0 = omega arith in rw z;
    bests = λ j a b. absurd (omega arith);
    least = let z : first - first ≡ 0 = omega arith in rw z refl;
  }

  module _ (number_is : number ≡ length (row_runs rows col0 labels row first end)) (v : List ℕ) (k c s : ℕ) (h : RunsKeeps u v rows col0 labels row place number first end k c s) where
    -- how many are left
    left : k - place + length (row_runs rows col0 labels row c end) ≡ number
    left = omega (arith, ap length h.is, length-append (span v place (k - place)) (row_runs rows col0 labels row c end), length_span v place (k - place), number_is)

    -- the last one goes up to the end
    pub last_run : place + number ≤ k + 1 → has_path rows col0 row (end - 1) ≡ true → (row_runs rows col0 labels row c end ≡ interval row c (end - 1) ∷ []) × ((j : ℕ) → c ≤ j → j < end → has_path rows col0 row j ≡ true)
    last_run l there = one_run rows col0 labels row c end h.inside h.path there (omega (arith, left, h.low, h.high))

    -- the least sum when the run from c up to e is looked at too, and no path from there up to d
    sum_more : (e d b t s' : ℕ) → c < e → e ≤ d → ((j : ℕ) → c ≤ j → j < e → has_path rows col0 row j ≡ true) → ((j : ℕ) → e ≤ j → j < d → has_path rows col0 row j ≡ false)
        → least_from (row_sums rows col0 labels row) c (e - c) ≡ by b t → t < word_end → s' ≡ cond (below t s) t s → LeastSum s' (least_from (open_sums rows col0 labels row) first (d - first))
    sum_more e d b t s' ce ed paths none q l z =
        let w = open_sums rows col0 labels row in
        let x : c - first + (d - c) ≡ d - first = omega (arith, h.from) in
        let x' : first + (c - first) ≡ c = omega (arith, h.from) in
        let y : e - c + (d - e) ≡ d - c = omega arith in
        let y' : c + (e - c) ≡ e = omega arith in
        let run : least_from w c (e - c) ≡ by b t = least_from_same w (row_sums rows col0 labels row) c (e - c) (λ j a m. open_some rows col0 labels row j (paths j a (omega arith))) ∙ q in
        let part : least_from w c (d - c) ≡ by b t =
        rw (y, y') at (least_from_split w c (e - c) (d - e)) ∙ rw (run, least_from_nobody w e (d - e) (λ j a m. open_none rows col0 labels row j (none j a (omega arith)))) (lesser_nobody (by b t)) in
        let all : least_from w first (d - first) ≡ lesser (least_from w first (c - first)) (by b t) = rw (x, x') at (least_from_split w first (c - first) (d - c)) ∙ rw part in
        rw all (least_more (least_from w first (c - first)) s b t s' h.least l z)

    module _ (v' : List ℕ) (s' : ℕ) where
      more_bests : (e : ℕ) → c < e → PutLeaves v v' k (drawn rows col0 labels row c e) → (j : ℕ) → place ≤ j → j < k + 1 → RowBest rows col0 labels (listed_at v' j)
      more_bests e ce p j a b = ⊎_elim
          (λ (l : j < k). best_moves rows col0 labels _ _ (p.outside.same j (inl l)) (h.bests j a l))
          (λ (l : k ≤ j). let z : j ≡ k = omega arith in best_moves rows col0 labels _ _ (ap (listed_at v') z ∙ p.here) (drawn_best rows col0 labels row c e ce))
          (split_at j k)

      best_is : (e : ℕ) → PutLeaves v v' k (drawn rows col0 labels row c e) → least_from (row_sums rows col0 labels row) c (e - c) ≡ by (best_column_at v' k) (best_sum_at v' k)
      best_is e p = sym (ap (λ (x : Listed). x.best) p.here)

      -- the run from c up to e goes to place k, and the next begins at d
      pub runs_next : (e d : ℕ) → k + 1 < place + number → TurnsAt rows col0 row false c end e → TurnsAt rows col0 row true e end d → PutRunLeaves v v' rows col0 labels k row c e s s'
          → RunsKeeps u v' rows col0 labels row place number first end (k + 1) d s'
      runs_next e d l run gap x =
          let p = x.put in
          let ce = run_some rows col0 row c e end h.path h.inside run in
          let q = next_run rows col0 labels row c e d end h.path h.inside run gap in
          let there : d < end = ⊎_elim (λ (m : d < end). m) (λ (m : end ≤ d). absurd (omega (arith, left, h.low, ap length q, ap length (no_runs rows col0 labels row d end m)))) (split_at d end) in
          record {
            low = omega (arith, h.low);
            high = l;
            from = omega (arith, h.from, run.low, gap.low);
            inside = there;
            path = gap.here there;
            outside = outside_more u v v' place k _ h.low h.outside p;
            is = ap (λ (vs : List Interval). vs ++ row_runs rows col0 labels row d end) (span_more u v v' place k _ h.low h.outside p)
                ∙ append_assoc (span v place (k - place)) (interval row c (e - 1) ∷ []) (row_runs rows col0 labels row d end)
                ∙ ap (λ (vs : List Interval). span v place (k - place) ++ vs) (sym q) ∙ h.is;
            bests = more_bests e ce p;
            least = sum_more e d _ _ s' ce gap.low run.before gap.before (best_is e p) x.small x.least;
          }

      -- the last one goes up to the end
      pub runs_done : place + number ≤ k + 1 → has_path rows col0 row (end - 1) ≡ true → PutRunLeaves v v' rows col0 labels k row c end s s'
          → PutRunsLeaves u v' rows col0 labels row place number first end s'
      unfolding tag
      runs_done l there x =
          let p = x.put in
          let n : k + 1 ≡ place + number = omega (arith, h.high) in
          let one = last_run l there in
          let z : k + 1 - place ≡ number = omega arith in
          record {
            outside = rw n at (outside_more u v v' place k _ h.low h.outside p);
            here = rw z at (span_more u v v' place k _ h.low h.outside p) ∙ ap (λ (vs : List Interval). span v place (k - place) ++ vs) (sym one.0) ∙ h.is;
            bests = λ j a b. more_bests end h.inside p j a (omega arith);
            least = some (least_from (open_sums rows col0 labels row) first (end - first)) (found_is (open_sums rows col0 labels row) first (end - first))
                (sum_more end end _ _ s' h.inside (le_refl end) one.1 (λ j a b. absurd (omega arith)) (best_is end p) x.small x.least);
          }
        where
          -- a path somewhere gives a sum
          some : (x : Best) → Found (open_sums rows col0 labels row) first (end - first) x → LeastSum s' x → (b : ℕ) × (x ≡ by b s')
          some (by b t) f m = (b, ap (by b) (sym m))
          some nobody f m = absurd (omega (arith, sym (tag_some rows col0 labels row c h.path) ∙ ap tag (f c h.from (omega (arith, h.from, h.inside)))))
