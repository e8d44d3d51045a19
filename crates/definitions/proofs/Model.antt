-- The laws of the file `Model` of specs/: what its definitions that are made for computing come to. The proofs go over the folder `Laws`.
--   exactly_the_longest_runs intervals_rise      the intervals are exactly the longest runs
--   one_order by_first_column_same by_first_column_sorts     lists by rising first column
--   first_columns_rise by_first_column_exactly in_order_already     there is one such list of the intervals
--   least_left_lem none_left                     what an extraction finds is the least that is left
--   each_has_best                                every interval has a best
use Rattle.std.specs.Prelude.{◌≡◌, true, List, ◌↔◌, ℕ, suc, ◌-◌, ◌<◌}
use Rattle.definitions.specs.Lists.{Every}
use Rattle.definitions.specs.Network.{Rectangle}
use Rattle.definitions.specs.Best.{nobody, by}
use Rattle.definitions.specs.Intervals.{Interval, interval, runs, LongestRun, Rising, is_kept, Distinct, SameIntervals, by_first_column, FirstsRise}
use Rattle.definitions.specs.Model.{Model, available, intervals, least_left, LeastLeft, with_best, HasBest}
use Rattle.definitions.proofs.Laws.Members.{every_imp}
use Rattle.definitions.proofs.Laws.RunProofs.{runs_rising, Longest, runs_longest}
use Rattle.definitions.proofs.Laws.RunLaws.{runs_are_longest, run_least}
use Rattle.definitions.proofs.Laws.OrderLaws.{rising_firsts, one_list, sorted_same, sorts, order_stays, ordered_exactly}
use Rattle.definitions.proofs.Laws.LeastLaws.{least_lowest, least_nobody}

-- ---- the intervals

-- They are exactly the longest runs: an interval is kept if and only if it is one. Each begins after the one before it ends.
pub exactly_the_longest_runs : (e : Rectangle) (cols : ℕ) (m : Model) (p f l : ℕ)
    → is_kept (interval p f l) (intervals e cols m) ≡ true ↔ LongestRun (available e m) cols p f l
unfolding intervals
exactly_the_longest_runs e cols m p f l = runs_are_longest (available e m) cols p f l

pub intervals_rise : (e : Rectangle) (cols : ℕ) (m : Model) → Rising 0 (intervals e cols m)
unfolding intervals
intervals_rise e cols m = runs_rising (available e m) 0 cols

-- First columns that rise settle the order: two lists of the same intervals whose first columns both rise are the same list. `by_first_column` gives the
-- same intervals; and if `us` has those of such a list `vs`, each once and in any order, it gives `vs`.
pub one_order : (us vs : List Interval) → SameIntervals us vs → FirstsRise us → FirstsRise vs → us ≡ vs
one_order us vs = one_list us vs

pub by_first_column_same : (vs : List Interval) → SameIntervals (by_first_column vs) vs
by_first_column_same vs = sorted_same vs

pub by_first_column_sorts : (us vs : List Interval) → Distinct us → SameIntervals us vs → FirstsRise vs → by_first_column us ≡ vs
by_first_column_sorts us vs = sorts us vs

-- So of the model's intervals: a list is the one that `by_first_column` gives exactly if its intervals are these and its first columns rise. Those of
-- `intervals` rise already, so nothing is moved.
pub first_columns_rise : (e : Rectangle) (cols : ℕ) (m : Model) → FirstsRise (intervals e cols m)
first_columns_rise e cols m = rising_firsts 0 (intervals e cols m) (intervals_rise e cols m)

pub by_first_column_exactly : (e : Rectangle) (cols : ℕ) (m : Model) (vs : List Interval)
    → vs ≡ by_first_column (intervals e cols m) ↔ (SameIntervals vs (intervals e cols m) × FirstsRise vs)
by_first_column_exactly e cols m vs = ordered_exactly (intervals e cols m) vs (first_columns_rise e cols m)

pub in_order_already : (e : Rectangle) (cols : ℕ) (m : Model) → by_first_column (intervals e cols m) ≡ intervals e cols m
in_order_already e cols m = order_stays (intervals e cols m) (first_columns_rise e cols m)

-- ---- what an extraction finds

-- It is the least sum that is left, and the lowest column of it; and nobody only where nothing is left.
pub least_left_lem : (e : Rectangle) (cols : ℕ) (m : Model) (c s : ℕ) → least_left e cols m ≡ by c s → LeastLeft e cols m c s
least_left_lem e cols m c s = least_lowest (available e m) 0 cols c s

pub none_left : (e : Rectangle) (cols : ℕ) (m : Model) → least_left e cols m ≡ nobody → (d : ℕ) → d < cols → available e m d ≡ nobody
none_left e cols m = least_nobody (available e m) cols

-- ---- the best of an interval

-- Every interval of the model has one.
pub each_has_best : (e : Rectangle) (cols : ℕ) (m : Model) → Every (λ v. HasBest e m (with_best e m v)) (intervals e cols m)
unfolding intervals
each_has_best e cols m = every_imp (Longest (available e m) 0 cols) (λ v. HasBest e m (with_best e m v)) (runs (available e m) 0 cols) has (runs_longest (available e m) 0 cols)
  where
    has : (v : Interval) → Longest (available e m) 0 cols v → HasBest e m (with_best e m v)
    has (interval p f l) r =
        let x = run_least (available e m) 0 cols p f l r in
        record { column = x.0; sum = x.1; best_is = x.2; lowest = least_lowest (available e m) f (suc l - f) x.0 x.1 x.2 }
