-- The lowest column of least sum, from the bests in the words.
--   best_of                                what the code holds of it
--   least_best LeastKeeps least-..         the least best of the first intervals
--   LeastIs LeastLeaves                   of all of them
--   least_is_left                         it is what the model's extraction finds
--   found_inside                          and the column lies in its interval
use Rattle.std.specs.Prelude.{◌≡◌, cond, List, map, Option, Some, None}
use Rattle.std.proofs.Math.Path.{refl, sym}
use Rattle.std.proofs.Common.{ap, ◌∙◌, lt-ltb, le-ltb}
use Prim.Native.Nat.{ℕ, zero, suc, ◌+◌, ◌-◌, ◌≤◌, ◌<◌}
use native.Mathlib.Omega.{arith}
use Rattle.definitions.specs.HeapWords.{count_of, first_at, last_at, best_column_at, best_sum_at, interval_at, span, kept, best_at}
use Rattle.definitions.specs.HeldModel.{lent_entry, Holds}
use Rattle.definitions.specs.Limits.{below}
use Rattle.definitions.specs.Best.{Best, nobody, by, lesser, least}
use Rattle.definitions.proofs.Laws.LeastLaws.{least_lowest}
use Rattle.definitions.specs.Model.{Model, available, least_left, best_in}
use Rattle.heap_laws.proofs.Lesser.{lesser_assoc}
use Rattle.heap_laws.proofs.Bests.{least_of_bests}
use Rattle.engine.specs.declared.heap.Lowest.{Lowest}
use Rattle.engine.specs.Heap.Laid.{In}

abbrev pub best_of : Option Lowest → Best
best_of (Some x) = by x.column x.sum
best_of None = nobody

-- ---- over the intervals

module _ (w : List ℕ) where
  -- the least best of n intervals from place i on
  unfoldable pub least_best : ℕ → ℕ → Best
  least_best i zero = nobody
  least_best i (suc n) = lesser (best_at w i) (least_best (suc i) n)

  least_more : (i n : ℕ) → least_best i (suc n) ≡ lesser (least_best i n) (best_at w (i + n))
  unfolding least_best lesser
  least_more i zero = let z : i + 0 ≡ i = omega arith in rw z
  least_more i (suc n) =
      let z : i + suc n ≡ suc i + n = omega arith in
      rw z (ap (lesser (best_at w i)) (least_more (suc i) n) ∙ sym (lesser_assoc (best_at w i) (least_best (suc i) n) (best_at w (suc i + n))))

  -- of the first n intervals, the one at `place` has the least best, and s is its sum
  pub record LeastKeeps (n place s : ℕ) : Type 0 where
    pub inside : place < n
    pub sum_is : s ≡ best_sum_at w place
    pub is : least_best 0 n ≡ best_at w place

  pub least_first : (s : ℕ) → s ≡ best_sum_at w 0 → LeastKeeps 1 0 s
  unfolding least_best lesser
  least_first s q = record { inside = omega arith; sum_is = q; is = refl }

  module _ (n place s t : ℕ) (h : LeastKeeps n place s) (q : t ≡ best_sum_at w n) where
    one_more : least_best 0 (n + 1) ≡ cond (below (best_sum_at w n) (best_sum_at w place)) (best_at w n) (best_at w place)
    unfolding lesser
    one_more = let z : n + 1 ≡ suc n = omega arith in let y : 0 + n ≡ n = omega arith in rw (z, least_more 0 n, h.is, y)

    pub least_next : t < s → LeastKeeps (n + 1) n t
    least_next l = record { inside = omega arith; sum_is = q; is = one_more ∙ simp (lt-ltb (best_sum_at w n) (best_sum_at w place) (omega (arith, h.sum_is))) }

    pub least_stays : s ≤ t → LeastKeeps (n + 1) place s
    least_stays l = record { inside = omega (arith, h.inside); sum_is = h.sum_is; is = one_more ∙ simp (le-ltb (best_sum_at w n) (best_sum_at w place) (omega (arith, h.sum_is))) }

  -- what is found of all intervals: their least best, and the place of the interval that has it
  pub record LeastIs (x : Lowest) : Type 0 where
    pub keeps : LeastKeeps (count_of w) x.place x.sum
    pub column_is : x.column ≡ best_column_at w x.place

  abbrev pub LeastLeaves : Option Lowest → Type 0
  LeastLeaves None = count_of w ≡ 0
  LeastLeaves (Some x) = LeastIs x

-- ---- the model's

module _ (w : List ℕ) (rows : List (List ℕ)) (col0 cols : ℕ) (labels : List ℕ) (m : Model) (h : Holds w rows col0 cols labels m) where
  -- the bests in the words are those of the model's intervals
  bests_are : (i n : ℕ) → i + n ≤ count_of w → least_best w i n ≡ least (map (best_in (lent_entry rows col0) m) (span w i n))
  unfolding least_best span least
  bests_are i zero l = refl
  bests_are i (suc n) l = rw (h.bests i (omega arith), bests_are (suc i) n (omega arith))

  pub least_is_left : (b : Option Lowest) → LeastLeaves w b → best_of b ≡ least_left (lent_entry rows col0) cols m
  unfolding kept least_best
  least_is_left b g = go b g ∙ bests_are 0 (count_of w) (omega arith) ∙ rw h.listed (least_of_bests (lent_entry rows col0) cols m)
    where
      go : (b : Option Lowest) → LeastLeaves w b → best_of b ≡ least_best w 0 (count_of w)
      go None z = rw z
      go (Some b) x = rw (x.column_is, x.keeps.sum_is) (sym x.keeps.is)

  pub found_inside : (b : Lowest) → LeastIs w b → (b.place < count_of w) × In w b.place b.column
  unfolding interval_at
  found_inside b x =
      let k = b.place in
      let f = least_lowest (available (lent_entry rows col0) m) (first_at w k) (suc (last_at w k) - first_at w k) _ _ (sym (h.bests k x.keeps.inside)) in
      rw x.column_is (x.keeps.inside, (f.low, omega (arith, f.low, f.high)))
