-- M8: the counts of a call and of a list of calls.
--   extend_refused                        a refused call changes no model and no count
--   step_new step_new_extract             a call inserts at most three more than closed columns, an extraction at most two
--   call_balance trace_balance            inserted = removed + kept
--   trace_few                             at most so many for each activated row and two for each extracted column
use Rattle.std.specs.Prelude.{◌≡◌, refl, List, [], ◌∷◌, ◌++◌, ◌≢◌, ℕ, ◌+◌, ◌*◌, ◌≤◌, length}
use Rattle.std.proofs.Common.{add-zero, mul-add, arith}
use Rattle.std.proofs.Math.ListN.{length-append}
use Rattle.definitions.specs.Network.{Rectangle}
use Rattle.definitions.specs.Monge.{Monge, closed}
use Rattle.definitions.specs.Best.{Best, nobody, by, least_from}
use Rattle.definitions.specs.Intervals.{count_new}
use Rattle.definitions.proofs.Laws.LeastLaws.{Found, found_is}
use Rattle.definitions.specs.Model.{available, Model, fresh, activate, extract, intervals, judge, Call, Answer, coded, extraction_of, step, allowance, Trace, extend, trace}
use Rattle.heap_laws.specs.ModelCalls.{Cases, activates, extracts, refuses}
use Rattle.heap_laws.proofs.ModelCalls.{cases, step_activate, step_extract, step_refused, trace_induction}
use Rattle.heap_laws.specs.Sound.{Sound}
use Rattle.heap_laws.proofs.Sound.{fresh_sound, extend_sound}
use Rattle.heap_laws.proofs.Counting.{count_new_same, runs_distinct, balance}
use Rattle.heap_laws.proofs.Activate.{none_kept, activate_new}
use Rattle.heap_laws.proofs.Extract.{extract_new}
use Rattle.heap_laws.specs.TraceCounts.{Few}

pub extend_refused : (e : Rectangle) (rows cols : ℕ) (t : Trace) (k : Call) → judge rows t.model k ≢ 0
    → extend e rows cols t k ≡ record { model = t.model; answers = t.answers ++ coded (judge rows t.model k) ∷ []; inserted = t.inserted; removed = t.removed }
unfolding extend
extend_refused e rows cols t k h = rw (step_refused e rows cols t.model k h, count_new_same (intervals e cols t.model)) (simp add-zero)

-- ---- inserted = removed + kept

pub call_balance : (e : Rectangle) (cols : ℕ) (m m' : Model)
    → count_new (intervals e cols m') (intervals e cols m) + length (intervals e cols m) ≡ count_new (intervals e cols m) (intervals e cols m') + length (intervals e cols m')
unfolding intervals
call_balance e cols m m' = balance _ _ (runs_distinct (available e m') 0 cols) (runs_distinct (available e m) 0 cols)

pub trace_balance : (e : Rectangle) (rows cols : ℕ) (ks : List Call)
    → (trace e rows cols ks).inserted ≡ (trace e rows cols ks).removed + length (intervals e cols (trace e rows cols ks).model)
unfolding extend
trace_balance e rows cols = trace_induction e rows cols (λ t. t.inserted ≡ t.removed + length (intervals e cols t.model))
    (λ t k h. omega (arith, call_balance e cols t.model (step e rows cols t.model k).model))
    (rw (none_kept e cols fresh refl))

-- ---- how many are inserted

module _ (e : Rectangle) (rows cols : ℕ) where
  pub step_new_extract : (m : Model) (k : Call) → k.kind ≡ 2 → count_new (intervals e cols (step e rows cols m k).model) (intervals e cols m) ≤ 2
  step_new_extract m k h = rw (step_extract e rows cols m k h) (extract_new e cols m (least_from (available e m) 0 cols) (found_is (available e m) 0 cols))

  pub step_new : Monge e rows cols → (m : Model) (k : Call) → Sound e rows cols m → count_new (intervals e cols (step e rows cols m k).model) (intervals e cols m) ≤ 3 + closed e rows cols
  step_new ok m k g = go (cases rows m k)
    where
      go : Cases rows m k → count_new (intervals e cols (step e rows cols m k).model) (intervals e cols m) ≤ 3 + closed e rows cols
      go (activates a) = rw (step_activate e rows cols m k a) (activate_new e rows cols ok m g k.row k.label a.row_in_lem a.row_new a.high)
      go (extracts h) = omega (arith, step_new_extract m k h)
      go (refuses h) = rw (step_refused e rows cols m k h) (omega (arith, count_new_same (intervals e cols m)))

  -- what an extraction inserts, against the columns extracted
  extract_few : (m : Model) (x : Best) → Found (available e m) 0 cols x
      → (length (extract m x).activated ≡ length m.activated)
      × (count_new (intervals e cols (extract m x)) (intervals e cols m) + 2 * length m.extracted ≤ 2 * length (extract m x).extracted)
  unfolding extract
  extract_few m nobody f = (refl, omega (arith, count_new_same (intervals e cols m)))
  extract_few m (by c s) f = (refl, omega (arith, extract_new e cols m (by c s) f, length-append m.extracted (c ∷ [])))

  module _ (ok : Monge e rows cols) where
    abbrev shut : ℕ
    shut = closed e rows cols

    pub extend_few : (t : Trace) (k : Call) → Sound e rows cols t.model → Few shut t → Few shut (extend e rows cols t k)
    unfolding extend activate
    extend_few t k g h = go (cases rows m k)
      where
        m : Model
        m = t.model

        go : Cases rows m k → Few shut (extend e rows cols t k)
        go (activates a) =
            rw (step_activate e rows cols m k a, length-append m.activated (record { row = k.row; label = k.label } ∷ []), mul-add)
            (omega (arith, activate_new e rows cols ok m g k.row k.label a.row_in_lem a.row_new a.high))
        go (extracts q) =
            let f = extract_few m (least_from (available e m) 0 cols) (found_is (available e m) 0 cols) in
            rw (step_extract e rows cols m k q, f.0) (omega (arith, f.1))
        go (refuses q) = rw (step_refused e rows cols m k q) (omega (arith, count_new_same (intervals e cols m)))

    -- what one call inserts is within its allowance
    pub step_allowed : (m : Model) (k : Call) → Sound e rows cols m
        → count_new (intervals e cols (step e rows cols m k).model) (intervals e cols m) ≤ allowance shut k (step e rows cols m k).answer
    unfolding allowance extract
    step_allowed m k g = go (cases rows m k)
      where
        none : (a : Answer) → count_new (intervals e cols m) (intervals e cols m) ≤ allowance shut k a
        none a = omega (arith, count_new_same (intervals e cols m))

        found : (x : Best) → Found (available e m) 0 cols x → k.kind ≡ 2 → count_new (intervals e cols (extract m x)) (intervals e cols m) ≤ allowance shut k (extraction_of x)
        found nobody f q = none (coded 50)
        found (by c s) f q = rw q (extract_new e cols m (by c s) f)

        go : Cases rows m k → count_new (intervals e cols (step e rows cols m k).model) (intervals e cols m) ≤ allowance shut k (step e rows cols m k).answer
        go (activates a) = rw (step_activate e rows cols m k a, a.kind_is) (activate_new e rows cols ok m g k.row k.label a.row_in_lem a.row_new a.high)
        go (extracts q) = rw (step_extract e rows cols m k q) (found (least_from (available e m) 0 cols) (found_is (available e m) 0 cols) q)
        go (refuses q) = rw (step_refused e rows cols m k q) (none (coded (judge rows m k)))

    pub trace_few : (ks : List Call) → Few shut (trace e rows cols ks)
    trace_few ks = (trace_induction e rows cols (λ t. Sound e rows cols t.model × Few shut t)
        (λ t k h. (extend_sound e rows cols t k h.0, extend_few t k h.0 h.1))
        (fresh_sound e rows cols, omega arith) ks).1
