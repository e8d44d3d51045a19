-- The bests of the intervals, document 02, request 3.
--   least_of_bests            the least of them is the least of all columns that are left
--   same_sum                  equal bests have one sum
--   activate_same             the least sum stays where an activation wins nothing
--   activate_lowers           else it is the lesser of the one before and the best of the columns won; a closed one has no sum
use Rattle.std.specs.Prelude.{◌≡◌, Bool, cond, false, ◌⊎◌}
use Rattle.std.proofs.Math.Path.{refl}
use Rattle.std.proofs.Common.{sym, ap, ◌∙◌, inl, inr, ⊎_elim, le_refl}
use mathlib.Core.List.{List, [], ◌∷◌, map}
use Prim.Native.Nat.{ℕ, zero, suc, ◌+◌, ◌-◌, ◌≤◌, ◌<◌}
use native.Mathlib.Omega.{arith}
use Rattle.definitions.specs.Limits.{below}
use Rattle.definitions.specs.Lists.{mem}
use Rattle.definitions.specs.Network.{Rectangle}
use Rattle.definitions.specs.Best.{Best, nobody, by, lesser, least, placed, least_from, Lowest}
use Rattle.definitions.specs.Intervals.{Interval, interval, adjoins, joined, prepend, prepend_column, runs, Rising, first_column, last_column}
use Rattle.definitions.specs.Model.{Activation, Model, through, parent, available, activate, intervals, least_left, best_in}
use Rattle.definitions.proofs.Laws.LeastLaws.{Found, found_is, least_from_same}
use Rattle.definitions.proofs.Laws.RunProofs.{adjoin, runs_rising}
use Rattle.logic.specs.Tests.{split_at, Truth, holds, fails, truth, Order, less, more, order}
use Rattle.heap_laws.proofs.Lesser.{lesser_nobody, lesser_assoc, up_to_lesser, up_to_is}
use Rattle.heap_laws.specs.Lesser.{UpTo}
use Rattle.heap_laws.proofs.Parents.{parent_snoc}
use Rattle.heap_laws.specs.Won.{won, Range}
use Rattle.heap_laws.proofs.Activate.{activate_lost}
pub use Rattle.heap_laws.specs.Bests.{SameSum}

-- ---- the least of the bests

module _ (w : ℕ → Best) where
  abbrev over : Interval → Best
  over v = least_from w (first_column v) (suc (last_column v) - first_column v)

  -- a column before the intervals of the columns after it
  before_others : (c p s : ℕ) → w c ≡ by p s → (vs : List Interval) → Rising (suc c) vs → least (map over (prepend (interval p c c) vs)) ≡ lesser (placed c (w c)) (least (map over vs))
  unfolding prepend joined least least_from
  before_others c p s q [] g =
      let z : suc c - c ≡ suc zero = omega arith in
      rw z (ap (λ (x : Best). lesser x nobody) (lesser_nobody (placed c (w c))))
  before_others c p s q (interval p' f l ∷ vs) g = go (truth (adjoins (interval p c c) (interval p' f l)))
    where
      go : Truth (adjoins (interval p c c) (interval p' f l))
          → least (map over (prepend (interval p c c) (interval p' f l ∷ vs))) ≡ lesser (placed c (w c)) (least (map over (interval p' f l ∷ vs)))
      go (holds t) =
          let a : suc c ≡ f = (adjoin (interval p c c) (interval p' f l) t).1 in
          let z : suc l - c ≡ suc (suc l - suc c) = omega (arith, g.1) in
          simp t (rw (z, ← a) (lesser_assoc (placed c (w c)) (least_from w (suc c) (suc l - suc c)) (least (map over vs))))
      go (fails t) =
          let z : suc c - c ≡ suc zero = omega arith in
          simp t (rw z (ap (λ (x : Best). lesser x (least (map over (interval p' f l ∷ vs)))) (lesser_nobody (placed c (w c)))))

  least_over : (c n : ℕ) → least (map over (runs w c n)) ≡ least_from w c n
  unfolding runs prepend_column least_from least placed lesser
  least_over c zero = refl
  least_over c (suc n) = go (w c) refl (least_over (suc c) n)
    where
      go : (x : Best) → w c ≡ x → least (map over (runs w (suc c) n)) ≡ least_from w (suc c) n
          → least (map over (prepend_column c x (runs w (suc c) n))) ≡ lesser (placed c x) (least_from w (suc c) n)
      go nobody q ih = ih
      go (by p s) q ih = before_others c p s q (runs w (suc c) n) (runs_rising w (suc c) n) ∙ rw (ih, q)

pub least_of_bests : (e : Rectangle) (cols : ℕ) (m : Model) → least (map (best_in e m) (intervals e cols m)) ≡ least_left e cols m
unfolding intervals
least_of_bests e cols m = least_over (available e m) 0 cols

-- ---- an activation

pub same_sum : (x y : Best) → x ≡ y → SameSum x y
same_sum nobody y q = rw (← q) tt
same_sum (by p s) y q = rw (← q) refl

module _ (e : Rectangle) (m : Model) (r v : ℕ) where
  column_falls : (c p s : ℕ) → available e m c ≡ by p s → UpTo s (available e (activate m r v) c)
  unfolding available activate
  column_falls c p s h = rw parent_snoc (go (truth (mem c m.extracted)) h)
    where
      a : Activation
      a = record { row = r; label = v }

      go : Truth (mem c m.extracted) → cond (mem c m.extracted) nobody (parent e m.activated c) ≡ by p s
          → UpTo s (cond (mem c m.extracted) nobody (lesser (parent e m.activated c) (through e c a)))
      go (holds t) q = let bad : nobody ≡ by p s = simp t at q in let z : ◌≡◌ {A = ℕ} 0 1 = cc in absurd (omega arith)
      go (fails t) q = let f : parent e m.activated c ≡ by p s = simp t at q in simp t (up_to_lesser s (parent e m.activated c) (through e c a) (rw f (le_refl s)))

  pub activate_same : (cols : ℕ) → ((c : ℕ) → c < cols → won e m.activated r v c ≡ false) → least_left e cols (activate m r v) ≡ least_left e cols m
  activate_same cols lost = least_from_same (available e (activate m r v)) (available e m) 0 cols (λ c _ l. activate_lost e m r v c (lost c (omega arith)))

  module _ {out : ℕ → Bool} (cols first end : ℕ) (wins : Range (won e m.activated r v) out cols first end) (c s : ℕ)
      (best : Lowest (available e (activate m r v)) first (end - first) c s) where
    -- the sum of a column afterwards is not below the best of those won, or it was there before
    won_or_same : (d p t : ℕ) → d < cols → available e (activate m r v) d ≡ by p t → (s ≤ t) ⊎ (available e m d ≡ by p t)
    won_or_same d p t l q = ⊎_elim
        (λ (a : d < first). inr (sym (activate_lost e m r v d (wins.before d a)) ∙ q))
        (λ (a : first ≤ d). ⊎_elim
        (λ (b : d < end). inl (best.no_less d p t a (omega arith) q))
        (λ (b : end ≤ d). inr (sym (activate_lost e m r v d (wins.after d b l)) ∙ q))
        (split_at d end))
        (split_at d first)

    pub activate_lowers : SameSum (least_left e cols (activate m r v)) (lesser (least_left e cols m) (by c s))
    unfolding lesser
    activate_lowers = go (least_left e cols m) (found_is (available e m) 0 cols) (least_left e cols (activate m r v)) (found_is (available e (activate m r v)) 0 cols)
      where
        inside : c < 0 + cols
        inside = omega (arith, best.low, best.high, wins.inside)

        go : (x : Best) → Found (available e m) 0 cols x → (z : Best) → Found (available e (activate m r v)) 0 cols z → SameSum z (lesser x (by c s))
        go x fx nobody fz = let q : nobody ≡ by best.holder s = sym (fz c (omega arith) inside) ∙ best.here in let y : ◌≡◌ {A = ℕ} 0 1 = cc in absurd (omega arith)
        go nobody fx (by d t) fz =
            let low : t ≤ s = fz.no_less c best.holder s (omega arith) inside best.here in
            ⊎_elim
            (λ (a : s ≤ t). omega arith)
            (λ (q : available e m d ≡ by fz.holder t). let n : nobody ≡ by fz.holder t = sym (fx d (omega arith) fz.high) ∙ q in let y : ◌≡◌ {A = ℕ} 0 1 = cc in absurd (omega arith))
            (won_or_same d fz.holder t (omega (arith, fz.high)) fz.here)
        go (by a u) fx (by d t) fz = pick (order s u)
          where
            low : t ≤ s
            low = fz.no_less c best.holder s (omega arith) inside best.here

            fell : t ≤ u
            fell =
                let g = up_to_is u (available e (activate m r v) a) (column_falls a fx.holder u fx.here) in
                omega (arith, g.3, fz.no_less a g.0 g.1 (omega arith) fx.high g.2)

            one : (s ≤ t) ⊎ (u ≤ t)
            one = ⊎_elim (λ (b : s ≤ t). inl b) (λ (q : available e m d ≡ by fz.holder t). inr (fx.no_less d fz.holder t (omega arith) fz.high q)) (won_or_same d fz.holder t (omega (arith, fz.high)) fz.here)

            pick : Order s u → SameSum (by d t) (cond (below s u) (by c s) (by a u))
            pick (less h l) = simp h (⊎_elim (λ (b : s ≤ t). omega (arith, low, fell)) (λ (b : u ≤ t). omega (arith, low, fell)) one)
            pick (more h l) = simp h (⊎_elim (λ (b : s ≤ t). omega (arith, low, fell)) (λ (b : u ≤ t). omega (arith, low, fell)) one)
