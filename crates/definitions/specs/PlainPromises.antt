-- What the session, the labelling and the route promise in plain terms, beside their equations with `session`, `label_network` and `route_network` of the file
-- `Entries`.
--   PlainSession   the intervals that an accepted session keeps and their bests, its counts, and what its extractions answer
--   PlainLeast     what a question to an index as built answers: document 02, request 5
--   PlainLabels    the labels of an accepted network, demand 2, and the counts
--   PlainRoute     the arcs to a target of an accepted network: document 02, request 4
use Rattle.std.specs.Prelude.{◌≡◌, not, List, map, ◌≢◌, ℕ, suc, ◌+◌, ◌*◌, ◌≤◌, ◌<◌, eqb, get_or, length}
use Rattle.definitions.specs.declared.LabelAnswer.{LabelAnswer}
use Rattle.definitions.specs.declared.RouteAnswer.{RouteAnswer}
use Rattle.definitions.specs.declared.SessionAnswer.{SessionAnswer}
use Rattle.definitions.specs.Limits.{max_label, label_places, unreached}
use Rattle.definitions.specs.Lists.{Every, count}
use Rattle.definitions.specs.Network.{Open, Distance, RouteArc, Routed}
use Rattle.definitions.specs.Monge.{closed}
use Rattle.definitions.specs.Blocks.{weight}
use Rattle.definitions.specs.Intervals.{Interval, Rising, Distinct, FirstsRise}
use Rattle.definitions.specs.Model.{fresh, intervals, Listed, HasBest, trace, AllExtractLeast, allowances}
use Rattle.definitions.specs.Index.{IsLeast, Least, a_column, no_column}
use Rattle.definitions.specs.Judgement.{pieces_of}
use Rattle.definitions.specs.Entries.{rectangle_of, calls_of, answers_in, intervals_of, arcs_of}

-- What an accepted session returns and leaves. The interval buffer lists exactly the model's intervals, by rising first column, and each once, with its
-- best.
pub record PlainSession (rows cols count : ℕ) (lengths calls : List ℕ) (r : SessionAnswer) (answers after : List ℕ) : Type 0 where
  pub listed : List Listed
  pub kept : List Interval
  pub written : after ≡ intervals_of listed
  pub each_listed : map (λ u. u.interval) listed ≡ kept
  pub kept_are : kept ≡ intervals (rectangle_of lengths) cols (trace (rectangle_of lengths) rows cols (calls_of calls count)).model
  -- the best of each: the least sum of its columns, and the lowest column that has it
  pub bests : Every (HasBest (rectangle_of lengths) (trace (rectangle_of lengths) rows cols (calls_of calls count)).model) listed
  pub firsts_rise : FirstsRise kept
  pub once : Distinct kept
  -- no two share a column: each begins after the one before it ends
  pub rising : Rising 0 kept
  -- inserted = removed + kept
  pub balanced : r.inserted ≡ r.removed + length kept
  -- three inserted at most by each activation that is done, and one more for each closed column; two by each extraction that hands out a column; none by any
  -- other call
  pub few : r.inserted ≤ allowances (closed (rectangle_of lengths) rows cols) (calls_of calls count) (answers_in answers count)
  -- each extraction answers that nothing is left exactly if there is no interval where its turn comes, else the least sum left and the lowest column of it
  pub least : AllExtractLeast (rectangle_of lengths) rows cols fresh (calls_of calls count) (answers_in answers count)

-- A stretch of a row of the rectangle gets the lowest column of least length there; one that is empty or leaves the row, or a row that is not there, gets none.
pub record PlainLeast (rows cols : ℕ) (lengths : List ℕ) (i first end : ℕ) (r : Least) : Type 0 where
  pub some : i < rows → first < end → end ≤ cols → (c : ℕ) × (r ≡ a_column c) × IsLeast (rectangle_of lengths i) first end c
  pub no_row : rows ≤ i → r ≡ no_column
  pub empty : end ≤ first → r ≡ no_column
  pub leaves : cols < end → r ≡ no_column

-- The labels are distances and at most `max_label`, places above n are unreached, and the counts are bounded by the sum over the pieces of m·⌈log₂ m⌉, that of
-- the intervals where no table shows that there is no path.
pub record PlainLabels (n p : ℕ) (sizes vertices lengths : List ℕ) (source : ℕ) (r : LabelAnswer) (after : List ℕ) : Type 0 where
  pub distances : (i : ℕ) → i < label_places → Distance (pieces_of p sizes vertices lengths) source (suc i) (get_or after i 0)
  pub limited : (i : ℕ) → i < label_places → get_or after i 0 ≢ unreached → get_or after i 0 ≤ max_label
  pub above_n : (i : ℕ) → n ≤ i → i < label_places → get_or after i 0 ≡ unreached
  pub reached_is : r.reached ≡ count (λ i. not (eqb (get_or after i 0) unreached)) label_places
  pub few_extracted : r.extracted ≤ weight (pieces_of p sizes vertices lengths)
  pub few_inserted : Open (pieces_of p sizes vertices lengths) → r.inserted ≤ 5 * weight (pieces_of p sizes vertices lengths)

-- The buffer lists the arcs of a route from the source to the target: they join up, each is an arc of its piece, no vertex stands twice, there are at most
-- 255, and their lengths add up to the label, which is the distance. To an unreached target, and to the source itself, there are none.
pub record PlainRoute (p : ℕ) (sizes vertices lengths : List ℕ) (source target : ℕ) (r : RouteAnswer) (after : List ℕ) : Type 0 where
  pub arcs : List RouteArc
  pub written : after ≡ arcs_of arcs
  pub counted : r.arcs ≡ length arcs
  pub routed : Routed (pieces_of p sizes vertices lengths) source target r.label arcs
