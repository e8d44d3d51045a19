-- M6: what an activation does to the intervals.
--   activate_lost activate_won activate_closed   a column as it was, or won by the new row, or closed
--   activate_range activate_edit    the columns won are cut out of the intervals and given to the new row, closed ones to nobody
--   closed_at closed_none closed_few   a closed column; where every entry is a number there is none; at most as many as columns
--   none_kept                       before the first activation there is no interval
--   activate_none activate_first    nothing won, nothing changed; the first row gets all columns where it has a path
--   activate_inserted activate_new  the new intervals and the trimmed rests are inserted, at most three more than closed columns
use Rattle.std.specs.Prelude.{◌≡◌, refl, Bool, true, false, cond, List, [], ◌∷◌, ◌++◌, ◌≢◌, ℕ, suc, pred, ◌+◌, ◌-◌, ◌≤◌, ◌<◌, eqb, length}
use Rattle.std.proofs.Common.{sym, ap, ◌∙◌, ⊎_elim, le_refl, ne_eqb, eqb-true}
use native.Mathlib.Omega.{arith}
use Rattle.definitions.specs.Limits.{sum, no_path}
use Rattle.definitions.specs.Metres.{IsNumber}
use Rattle.definitions.specs.Lists.{mem, Every}
use Rattle.definitions.specs.Network.{Rectangle}
use Rattle.definitions.specs.Monge.{Monge, is_closed, closed}
use Rattle.definitions.specs.Best.{nobody, lesser, least}
use Rattle.definitions.specs.Intervals.{Interval, interval, runs, same_interval, is_kept, count_new}
use Rattle.definitions.specs.Model.{Activation, Model, through, parent, available, is_activated, activate, intervals}
use Rattle.definitions.proofs.Laws.Members.{all_at, every_imp}
use Rattle.definitions.proofs.Laws.RunProofs.{tag, tag_is, runs_same, runs_none, Longest, runs_longest}
use Rattle.basics.specs.ListLaws.{every_snoc, all_fails, count_none, count_le}
use Rattle.logic.specs.Tests.{clash, split_at, Order, less, more, order, Truth, holds, fails, truth, Equal, equal, differ, equality}
use Rattle.heap_laws.proofs.Lesser.{lesser_nobody, wins, loses}
use Rattle.heap_laws.proofs.Parents.{parent_snoc, through_some, through_none, parent_none, parent_activated, available_parent}
use Rattle.heap_laws.specs.Won.{won, Range}
use Rattle.heap_laws.proofs.Won.{won_number, won_path, won_between, range}
use Rattle.heap_laws.specs.Sound.{Sound}
use Rattle.heap_laws.proofs.Sound.{won_available}
use Rattle.heap_laws.specs.Sides.{Break}
use Rattle.heap_laws.proofs.Counting.{count_new_same, count_new_new}
use Rattle.heap_laws.specs.Edits.{before, from, cut_at}
use Rattle.heap_laws.proofs.Edits.{cut_at_le, edited, edited_new}
use Rattle.heap_laws.proofs.Gaps.{count_part, runs_gaps}
use Rattle.heap_laws.specs.Gaps.{Alone}
use Rattle.heap_laws.specs.Activate.{labelled}

pub activate_lost : (e : Rectangle) (m : Model) (r v c : ℕ) → won e m.activated r v c ≡ false → available e (activate m r v) c ≡ available e m c
unfolding available activate
activate_lost e m r v c h = rw (parent_snoc, lost (equality (e r c) no_path))
  where
    lost : Equal (e r c) no_path → lesser (parent e m.activated c) (through e c (labelled r v)) ≡ parent e m.activated c
    lost (equal _ q) = rw (through_none e c (labelled r v) q) (lesser_nobody (parent e m.activated c))
    lost (differ _ n) = rw (through_some e c (labelled r v) n) (loses (parent e m.activated c) r (sum v (e r c)) (sym (won_number e m.activated r v c n) ∙ h))

activate_won : (e : Rectangle) (m : Model) (r v c : ℕ) → mem c m.extracted ≡ false → won e m.activated r v c ≡ true
    → available e (activate m r v) c ≡ through e c (labelled r v)
unfolding available activate
activate_won e m r v c t h =
    let n = won_path e m.activated r v c h in
    rw (parent_snoc, t, through_some e c (labelled r v) n) (wins (parent e m.activated c) r (sum v (e r c)) (sym (won_number e m.activated r v c n) ∙ h))

nothing : (b : Bool) → cond b nobody nobody ≡ nobody
nothing true = refl
nothing false = refl

-- no row has a path to a closed column
pub closed_at : (e : Rectangle) (rows c : ℕ) → is_closed e rows c ≡ true → (r : ℕ) → r < rows → e r c ≡ no_path
unfolding is_closed
closed_at e rows c t r l = eqb-true (e r c) no_path (all_at (λ i. eqb (e i c) no_path) rows t r l)

-- where every entry is a number no column is closed
pub closed_none : (e : Rectangle) (rows cols : ℕ) → 0 < rows → ((i k : ℕ) → i < rows → k < cols → IsNumber (e i k)) → closed e rows cols ≡ 0
unfolding closed is_closed
closed_none e rows cols some n = count_none (is_closed e rows) cols (λ c l. all_fails (λ i. eqb (e i c) no_path) rows 0 some (ne_eqb (e 0 c) no_path (n 0 c some l)))

pub closed_few : (e : Rectangle) (rows cols : ℕ) → closed e rows cols ≤ cols
unfolding closed
closed_few e rows cols = count_le (is_closed e rows) cols

-- a closed column has no parent
activate_closed : (e : Rectangle) (rows : ℕ) (m : Model) (r v c : ℕ) → Every (λ a. a.row < rows) m.activated → r < rows → is_closed e rows c ≡ true
    → available e (activate m r v) c ≡ through e c (labelled r v)
unfolding available activate
activate_closed e rows m r v c w l t =
    let xs = m.activated ++ labelled r v ∷ [] in
    let none = every_imp (λ a. a.row < rows) (λ a. e a.row c ≡ no_path) xs (λ a. closed_at e rows c t a.row) (every_snoc (λ a. a.row < rows) m.activated (labelled r v) w l) in
    rw (parent_none e xs c none, through_none e c (labelled r v) (closed_at e rows c t r l)) (nothing (mem c m.extracted))

pub activate_none : (e : Rectangle) (cols : ℕ) (m : Model) (r v : ℕ) → ((c : ℕ) → c < cols → won e m.activated r v c ≡ false)
    → intervals e cols (activate m r v) ≡ intervals e cols m
unfolding intervals
activate_none e cols m r v lost = runs_same (available e (activate m r v)) (available e m) 0 cols (λ k _ h. activate_lost e m r v k (lost k (omega arith)))

-- a row that is not activated is the parent of no column
row_new : (e : Rectangle) (m : Model) (r c : ℕ) → is_activated r m.activated ≡ false → tag (available e m c) ≢ suc r
row_new e m r c h q =
    let x = tag_is (available e m c) r q in
    clash (parent_activated e m.activated c r x.0 (available_parent e m c r x.0 x.1)) h

no_interval : (e : Rectangle) (m : Model) (r : ℕ) → is_activated r m.activated ≡ false → (f l c n : ℕ) (vs : List Interval) → Every (Longest (available e m) c n) vs
    → is_kept (interval r f l) vs ≡ false
unfolding is_kept same_interval
no_interval e m r new f l c n [] g = refl
no_interval e m r new f l c n (interval p f' l' ∷ vs) (g, gs) =
    let q : r ≢ p = λ z. row_new e m r f' new (g.owned f' (le_refl f') g.ordered ∙ ap suc (sym z)) in
    simp (ne_eqb r p q, no_interval e m r new f l c n vs gs)

-- a row's columns have no other parent
through_tag : (e : Rectangle) (c : ℕ) (a : Activation) (p : ℕ) → tag (through e c a) ≡ suc p → p ≡ a.row
unfolding tag
through_tag e c a p h = go (equality (e a.row c) no_path)
  where
    go : Equal (e a.row c) no_path → p ≡ a.row
    go (equal _ q) = absurd (omega (arith, rw (through_none e c a q) at h))
    go (differ _ n) = omega (arith, rw (through_some e c a n) at h)

-- every interval of the row's columns is one of the row
own_intervals : (e : Rectangle) (m : Model) (r v : ℕ) → is_activated r m.activated ≡ false → (c n c' n' : ℕ) (us vs : List Interval) → Every (Longest (available e m) c n) us
    → Every (Longest (λ k. through e k (labelled r v)) c' n') vs → Every (λ x. is_kept x us ≡ false) vs
own_intervals e m r v new c n c' n' us [] g h = tt
own_intervals e m r v new c n c' n' us (interval p f l ∷ vs) g (h, hs) =
    let q : p ≡ r = through_tag e f (labelled r v) p (h.owned f (le_refl f) h.ordered) in
    (rw q (no_interval e m r new f l c n us g), own_intervals e m r v new c n c' n' us vs g hs)

module _ (e : Rectangle) (rows cols : ℕ) (m : Model) (sound : Sound e rows cols m)
    (r v : ℕ) (hr : r < rows) (new : is_activated r m.activated ≡ false) (high : m.floor ≤ v)
    (first end : ℕ) (wins : Range (won e m.activated r v) (is_closed e rows) cols first end) where
  -- a column of the range is the row's where it has a path, and nobody's elsewhere
  pub activate_range : (k : ℕ) → first ≤ k → k < end → available e (activate m r v) k ≡ through e k (labelled r v)
  activate_range k a b = go (truth (is_closed e rows k))
    where
      go : Truth (is_closed e rows k) → available e (activate m r v) k ≡ through e k (labelled r v)
      go (holds t) = activate_closed e rows m r v k sound.in_rows hr t
      go (fails t) = let h = wins.within k a b t in activate_won e m r v k (won_available e rows cols m sound r v k high h) h

  alone : (k : ℕ) → first ≤ k → k < end → Alone r (is_closed e rows k) (through e k (labelled r v))
  alone k a b = go (truth (is_closed e rows k))
    where
      go : Truth (is_closed e rows k) → Alone r (is_closed e rows k) (through e k (labelled r v))
      go (holds t) = rw (through_none e k (labelled r v) (closed_at e rows k t r hr)) t
      go (fails t) = rw (through_some e k (labelled r v) (won_path e m.activated r v k (wins.within k a b t)))

  -- its parent can only be the row
  mine : (k p : ℕ) → first ≤ k → k < end → tag (available e (activate m r v) k) ≡ suc p → p ≡ r
  mine k p a b h = through_tag e k (labelled r v) p (rw (activate_range k a b) at h)

  not_mine : (k : ℕ) → won e m.activated r v k ≡ false → tag (available e (activate m r v) k) ≢ suc r
  not_mine k t = rw (activate_lost e m r v k t) (row_new e m r k new)

  module _ (some : first < end) where
    own : runs (available e (activate m r v)) first (end - first) ≡ runs (λ k. through e k (labelled r v)) first (end - first)
    own = runs_same (available e (activate m r v)) (λ k. through e k (labelled r v)) first (end - first) (λ k a b. activate_range k a (omega arith))

    break_first : Break (available e (activate m r v)) cols first
    break_first p a b x y = not_mine (pred first) (wins.before (pred first) (omega arith)) (x ∙ ap suc (mine first p (le_refl first) some y))

    break_end : Break (available e (activate m r v)) cols end
    break_end p a b x y = not_mine end (wins.after end (le_refl end) b) (y ∙ ap suc (mine (pred end) p (omega arith) (omega arith) x))

    pub activate_edit : intervals e cols (activate m r v)
        ≡ before first (intervals e cols m) ++ (runs (λ k. through e k (labelled r v)) first (end - first) ++ from end (intervals e cols m))
    unfolding intervals
    activate_edit =
        rw own at (edited (available e m) (available e (activate m r v)) cols first end wins.ordered wins.inside
        (λ k h. activate_lost e m r v k (wins.before k h)) (λ k h l. activate_lost e m r v k (wins.after k h l)) break_first break_end)

    -- the row's intervals, and the rest at either end if one is trimmed there
    pub activate_inserted : count_new (intervals e cols (activate m r v)) (intervals e cols m)
        ≡ cut_at first (intervals e cols m) + (length (runs (λ k. through e k (labelled r v)) first (end - first)) + cut_at end (intervals e cols m))
    unfolding intervals
    activate_inserted =
        let new-ones = own_intervals e m r v new 0 cols first (end - first) (runs (available e m) 0 cols) (runs (λ k. through e k (labelled r v)) first (end - first))
        (runs_longest (available e m) 0 cols) (runs_longest (λ k. through e k (labelled r v)) first (end - first)) in
        rw (own, count_new_new (runs (λ k. through e k (labelled r v)) first (end - first)) (runs (available e m) 0 cols) new-ones) at
        (edited_new (available e m) (available e (activate m r v)) cols first end wins.ordered wins.inside
        (λ k h. activate_lost e m r v k (wins.before k h)) (λ k h l. activate_lost e m r v k (wins.after k h l)) break_first break_end)

    -- one more than closed columns
    own_few : length (runs (λ k. through e k (labelled r v)) first (end - first)) ≤ closed e rows cols + 1
    unfolding closed
    own_few = omega (
      arith,
      runs_gaps (λ k. through e k (labelled r v)) r (is_closed e rows) first (end - first) (λ k a b. alone k a (omega arith)),
      count_part (is_closed e rows) first end cols wins.ordered wins.inside,
    )

  range_new : count_new (intervals e cols (activate m r v)) (intervals e cols m) ≤ 3 + closed e rows cols
  range_new = go (order first end)
    where
      go : Order first end → count_new (intervals e cols (activate m r v)) (intervals e cols m) ≤ 3 + closed e rows cols
      go (less _ l) = omega (arith, activate_inserted l, own_few l, cut_at_le first (intervals e cols m), cut_at_le end (intervals e cols m))
      go (more _ l) = rw (activate_none e cols m r v lost) (omega (arith, count_new_same (intervals e cols m)))
        where
          lost : (k : ℕ) → k < cols → won e m.activated r v k ≡ false
          lost k h = ⊎_elim (λ (a : k < first). wins.before k a) (λ (a : first ≤ k). wins.after k (omega arith) h) (split_at k first)

-- before the first activation there is no interval
pub none_kept : (e : Rectangle) (cols : ℕ) (m : Model) → m.activated ≡ [] → intervals e cols m ≡ []
unfolding intervals available parent least
none_kept e cols m none = runs_none (available e m) 0 cols (λ k _ _. rw none (nothing (mem k m.extracted)))

-- the first row that is activated gets all columns where it has a path
pub activate_first : (e : Rectangle) (rows cols : ℕ) (m : Model) → Sound e rows cols m → (r v : ℕ) → m.activated ≡ []
    → intervals e cols (activate m r v) ≡ runs (λ k. through e k (labelled r v)) 0 cols
unfolding intervals available activate parent least lesser
activate_first e rows cols m g r v none = runs_same (available e (activate m r v)) (λ k. through e k (labelled r v)) 0 cols (λ k _ h. first k (truth (mem k m.extracted)))
  where
    first : (k : ℕ) → Truth (mem k m.extracted) → available e (activate m r v) k ≡ through e k (labelled r v)
    first k (holds t) = absurd (rw none at (g.low k t))
    first k (fails t) = rw (t, none) (lesser_nobody (through e k (labelled r v)))

-- at most three intervals more are inserted than there are closed columns: the row's own, and the rests of the intervals at its two ends
pub activate_new : (e : Rectangle) (rows cols : ℕ) → Monge e rows cols → (m : Model) → Sound e rows cols m
    → (r v : ℕ) → r < rows → is_activated r m.activated ≡ false → m.floor ≤ v
    → count_new (intervals e cols (activate m r v)) (intervals e cols m) ≤ 3 + closed e rows cols
activate_new e rows cols ok m g r v hr new high =
    let w = range (won e m.activated r v) (is_closed e rows) cols (won_between e rows cols ok m.activated g.in_rows r v hr) in
    range_new e rows cols m g r v hr new high w.0 w.1 w.2
