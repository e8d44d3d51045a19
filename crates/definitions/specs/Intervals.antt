-- Document 01, "The heap of one block": intervals, and the longest runs of columns with one parent.
--   Interval adjoins joined prepend    an interval, and one put before others
--   prepend_column runs                 the longest runs
--   LongestRun                         one of them in plain terms
--   Rising                             each begins after the one before it ends
--   same_interval is_kept Distinct SameIntervals    an interval among others; each stands once; the same in two lists
--   first_column last_column             where an interval begins and ends
--   by_first_column FirstsRise           by rising first column, document 02, request 2
--   count_new                           how many of one list are not in another
use Rattle.std.specs.Prelude.{◌≡◌, Bool, false, cond, ◌&&◌, ◌||◌, List, [], ◌∷◌, ℕ, zero, suc, pred, ◌≤◌, ◌<◌, eqb, leb}
use Rattle.definitions.specs.Lists.{Every}
use Rattle.definitions.specs.Best.{Best, nobody, by}

-- its parent, its first and its last column
pub data Interval : Type 0 where
  interval : ℕ → ℕ → ℕ → Interval

-- the second goes on where the first ends, with the same parent
unfoldable pub adjoins : Interval → Interval → Bool
adjoins (interval p f l) (interval p' f' l') = eqb p p' && eqb (suc l) f'

-- the two as one
unfoldable pub joined : Interval → Interval → Interval
joined (interval p f l) (interval p' f' l') = interval p f l'

-- an interval before others: one with the first of these where they adjoin
unfoldable pub prepend : Interval → List Interval → List Interval
prepend v [] = v ∷ []
prepend v (u ∷ us) = cond (adjoins v u) (joined v u ∷ us) (v ∷ u ∷ us)

-- a column before the intervals of the columns after it
unfoldable pub prepend_column : ℕ → Best → List Interval → List Interval
prepend_column c nobody vs = vs
prepend_column c (by p s) vs = prepend (interval p c c) vs

-- the longest runs of one parent among the n columns from c on, by rising column
unfoldable pub runs : (ℕ → Best) → ℕ → ℕ → List Interval
runs w c zero = []
runs w c (suc n) = prepend_column c (w c) (runs w (suc c) n)

-- column k has the parent p
abbrev pub Owned : (ℕ → Best) → ℕ → ℕ → Type 0
Owned w p k = (s : ℕ) × (w k ≡ by p s)

-- In plain terms: of n columns, those from f to l have the parent p, and neither the column before f nor the one after l has.
pub record LongestRun (w : ℕ → Best) (n p f l : ℕ) : Type 0 where
  pub ordered : f ≤ l
  pub inside : l < n
  pub owned : (k : ℕ) → f ≤ k → k ≤ l → Owned w p k
  pub before : 0 < f → Owned w p (pred f) → ⊥
  pub after : suc l < n → Owned w p (suc l) → ⊥

-- each begins after the one before it ends, the first not before column lo
abbrev pub Rising : ℕ → List Interval → Type 0
Rising lo [] = Unit {0}
Rising lo (interval p f l ∷ vs) = (lo ≤ f) × (f ≤ l) × Rising (suc l) vs

-- same parent, first and last column: all that counts (document 02, request 3), and an interval has no best here
unfoldable pub same_interval : Interval → Interval → Bool
same_interval (interval p f l) (interval p' f' l') = eqb p p' && eqb f f' && eqb l l'

-- an interval is among others
unfoldable pub is_kept : Interval → List Interval → Bool
is_kept v [] = false
is_kept v (u ∷ us) = same_interval v u || is_kept v us

-- each stands once
abbrev pub Distinct : List Interval → Type 0
Distinct [] = Unit {0}
Distinct (v ∷ vs) = (is_kept v vs ≡ false) × Distinct vs

-- the same intervals are among both
abbrev pub SameIntervals : List Interval → List Interval → Type 0
SameIntervals us vs = (v : Interval) → is_kept v us ≡ is_kept v vs

-- the columns at which an interval begins and ends
abbrev pub first_column : Interval → ℕ
first_column (interval p f l) = f

abbrev pub last_column : Interval → ℕ
last_column (interval p f l) = l

-- the first begins no later than the second
unfoldable pub no_later : Interval → Interval → Bool
no_later v u = leb (first_column v) (first_column u)

-- an interval put before the first one that does not begin earlier, or at the end if there is none
unfoldable pub put_in_order : Interval → List Interval → List Interval
put_in_order v [] = v ∷ []
put_in_order v (u ∷ us) = cond (no_later v u) (v ∷ u ∷ us) (u ∷ put_in_order v us)

-- The same intervals by rising first column: the order in which document 02, request 2, has a session list those that are kept. The laws in the file
-- `Model` of proofs/ say what it comes to.
unfoldable pub by_first_column : List Interval → List Interval
by_first_column [] = []
by_first_column (v ∷ vs) = put_in_order v (by_first_column vs)

-- an interval begins after column c
abbrev pub BeginsAfter : ℕ → Interval → Type 0
BeginsAfter c u = c < first_column u

-- In plain terms, first columns rise: every interval that stands later in the list has a greater one.
abbrev pub FirstsRise : List Interval → Type 0
FirstsRise [] = Unit {0}
FirstsRise (v ∷ vs) = Every (BeginsAfter (first_column v)) vs × FirstsRise vs

-- How many of the first list are not in the second. Of the intervals after and before a call these are inserted, 01's brought in; of those
-- before and after it they are removed, 01's dropped.
unfoldable pub count_new : List Interval → List Interval → ℕ
count_new [] us = 0
count_new (v ∷ vs) us = cond (is_kept v us) (count_new vs us) (suc (count_new vs us))
