-- The law of the file `Entries` of specs/: what fixes the interval buffer of a session. Its proof goes over the file `Model`.
--   buffer_fixed              the order of the intervals does
use Rattle.std.specs.Prelude.{◌≡◌, ℕ}
use mathlib.Core.List.{List, map}
use Rattle.definitions.specs.Intervals.{Interval, SameIntervals, FirstsRise}
use Rattle.definitions.specs.Model.{intervals, with_best, trace}
use Rattle.definitions.specs.Entries.{rectangle_of, judge_session, calls_of, intervals_of, session}
use Rattle.definitions.proofs.Model.{by_first_column_exactly}

-- This fixes the interval buffer of an accepted session: it holds whatever list has exactly the model's intervals and first columns that rise, with
-- their bests.
pub buffer_fixed : (rows cols count : ℕ) (lengths calls answers kept : List ℕ) (listed : List Interval) → judge_session rows cols count lengths calls answers kept ≡ 0
    → let model = (trace (rectangle_of lengths) rows cols (calls_of calls count)).model in
    SameIntervals listed (intervals (rectangle_of lengths) cols model) → FirstsRise listed
    → (session rows cols count lengths calls answers kept).intervals ≡ intervals_of (map (with_best (rectangle_of lengths) model) listed)
unfolding session
buffer_fixed rows cols count lengths calls answers kept listed accepted same rise =
    rw (accepted, (by_first_column_exactly (rectangle_of lengths) cols (trace (rectangle_of lengths) rows cols (calls_of calls count)).model listed).1 (same, rise))
