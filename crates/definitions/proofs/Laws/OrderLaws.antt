-- Intervals by rising first column: the proofs behind the laws of `intervals` in the file `Model`.
--   rising_after rising_firsts   where each begins after the one before it ends, first columns rise
--   not_elsewhere not_after      an interval is not among those that begin at other columns
--   firsts_distinct               where first columns rise, each stands once
--   one_list                      two lists of the same intervals that both rise are the same list
--   sorted_same sorts             `by_first_column` gives the same intervals, and from those of a rising list, each once and in any order, that list
--   order_stays ordered_exactly   so it leaves a rising list as it is, and a list of the same intervals that rises is what it gives
use Rattle.std.specs.Prelude.{◌≡◌, refl, false, ◌||◌, ◌≢◌, ◌↔◌, ℕ, suc, ◌<◌}
use Rattle.std.proofs.Common.{subst, sym, ap, ◌∙◌, arith, leb-true, leb-false}
use Rattle.std.proofs.Math.Bool.{true, or-true}
use mathlib.Core.List.{List, [], ◌∷◌}
use Rattle.logic.specs.Tests.{clash, or_right, or_swap, Truth, holds, fails, truth}
use Rattle.definitions.specs.Lists.{Every}
use Rattle.definitions.specs.Intervals.{Interval, interval, Rising, same_interval, is_kept, Distinct, SameIntervals, first_column, no_later, put_in_order, by_first_column, BeginsAfter, FirstsRise}
use Rattle.definitions.proofs.Laws.Members.{every_imp}
use Rattle.definitions.proofs.Laws.RunProofs.{same_interval_refl, same_interval_is, kept_every}

pub rising_after : (c lo : ℕ) (vs : List Interval) → c < lo → Rising lo vs → Every (BeginsAfter c) vs
rising_after c lo [] h r = tt
rising_after c lo (interval p f l ∷ vs) h r = (omega arith, rising_after c (suc l) vs (omega arith) r.2)

pub rising_firsts : (lo : ℕ) (vs : List Interval) → Rising lo vs → FirstsRise vs
rising_firsts lo [] r = tt
rising_firsts lo (interval p f l ∷ vs) r = (rising_after f (suc l) vs (omega arith) r.2, rising_firsts (suc l) vs r.2)

-- ---- each once

-- an interval that begins at another column than c
abbrev pub Elsewhere : ℕ → Interval → Type 0
Elsewhere c u = c ≢ first_column u

after_elsewhere : (c : ℕ) (us : List Interval) → Every (BeginsAfter c) us → Every (Elsewhere c) us
after_elsewhere c us h = every_imp (BeginsAfter c) (Elsewhere c) us (λ u l q. omega arith) h

-- an interval is not among those that begin elsewhere
pub not_elsewhere : (v : Interval) (us : List Interval) → Every (Elsewhere (first_column v)) us → is_kept v us ≡ false
not_elsewhere v us h = go (truth (is_kept v us))
  where
    go : Truth (is_kept v us) → is_kept v us ≡ false
    go (holds t) = absurd (kept_every (Elsewhere (first_column v)) v us h t refl)
    go (fails t) = t

pub not_after : (v : Interval) (us : List Interval) → Every (BeginsAfter (first_column v)) us → is_kept v us ≡ false
not_after v us h = not_elsewhere v us (after_elsewhere (first_column v) us h)

pub firsts_distinct : (vs : List Interval) → FirstsRise vs → Distinct vs
firsts_distinct [] r = tt
firsts_distinct (v ∷ vs) r = (not_after v vs r.0, firsts_distinct vs r.1)

-- ---- one list

head_kept : (v : Interval) (vs : List Interval) → is_kept v (v ∷ vs) ≡ true
unfolding is_kept
head_kept v vs = simp same_interval_refl

-- two rising lists of the same intervals begin with the same one: else each of the two would begin after the other
same_head : (u v : Interval) (us vs : List Interval) → Every (BeginsAfter (first_column u)) us → Every (BeginsAfter (first_column v)) vs
    → is_kept u (v ∷ vs) ≡ true → is_kept v (u ∷ us) ≡ true → u ≡ v
unfolding is_kept
same_head u v us vs hu hv ku kv = go (truth (same_interval u v)) (truth (same_interval v u))
  where
    go : Truth (same_interval u v) → Truth (same_interval v u) → u ≡ v
    go (holds t) s = same_interval_is u v t
    go (fails t) (holds s) = sym (same_interval_is v u s)
    go (fails t) (fails s) = absurd (omega (arith, kept_every (BeginsAfter (first_column v)) u vs hv (simp t at ku), kept_every (BeginsAfter (first_column u)) v us hu (simp s at kv)))

-- and have the same intervals after it
same_tails : (v : Interval) (us vs : List Interval) → Every (BeginsAfter (first_column v)) us → Every (BeginsAfter (first_column v)) vs
    → SameIntervals (v ∷ us) (v ∷ vs) → SameIntervals us vs
unfolding is_kept
same_tails v us vs hu hv s x = go (truth (same_interval x v)) (s x)
  where
    go : Truth (same_interval x v) → is_kept x (v ∷ us) ≡ is_kept x (v ∷ vs) → is_kept x us ≡ is_kept x vs
    go (holds t) q = rw (same_interval_is x v t) (not_after v us hu ∙ sym (not_after v vs hv))
    go (fails t) q = simp t at q

pub one_list : (us vs : List Interval) → SameIntervals us vs → FirstsRise us → FirstsRise vs → us ≡ vs
unfolding is_kept
one_list [] [] s r q = refl
one_list [] (v ∷ vs) s r q = absurd (clash (head_kept v vs) (sym (s v)))
one_list (u ∷ us) [] s r q = absurd (clash (head_kept u us) (s u))
one_list (u ∷ us) (v ∷ vs) s r q =
    let e : u ≡ v = same_head u v us vs r.0 q.0 (sym (s u) ∙ head_kept u us) (s v ∙ head_kept v vs) in
    let t : SameIntervals us vs = same_tails v us vs (rw e at r.0) q.0 (rw e at s) in
    rw (e, one_list us vs t r.1 q.1)

-- ---- `by_first_column` sorts

-- no two begin at one column
abbrev FirstsDiffer : List Interval → Type 0
FirstsDiffer [] = Unit {0}
FirstsDiffer (v ∷ vs) = Every (Elsewhere (first_column v)) vs × FirstsDiffer vs

put_kept : (x v : Interval) (us : List Interval) → is_kept x (put_in_order v us) ≡ is_kept x (v ∷ us)
unfolding put_in_order is_kept
put_kept x v [] = refl
put_kept x v (u ∷ us) = go (truth (no_later v u)) (put_kept x v us)
  where
    go : Truth (no_later v u) → is_kept x (put_in_order v us) ≡ is_kept x (v ∷ us) → is_kept x (put_in_order v (u ∷ us)) ≡ is_kept x (v ∷ u ∷ us)
    go (holds t) ih = simp t
    go (fails t) ih = simp t (rw ih (or_swap (same_interval x u) (same_interval x v) (is_kept x us)))

pub sorted_same : (vs : List Interval) → SameIntervals (by_first_column vs) vs
unfolding by_first_column is_kept
sorted_same [] x = refl
sorted_same (v ∷ vs) x = put_kept x v (by_first_column vs) ∙ ap (λ t. same_interval x v || t) (sorted_same vs x)

every_put : (P : Interval → Type 0) (v : Interval) (us : List Interval) → P v → Every P us → Every P (put_in_order v us)
unfolding put_in_order
every_put P v [] h g = (h, tt)
every_put P v (u ∷ us) h g = go (truth (no_later v u)) (every_put P v us h g.1)
  where
    go : Truth (no_later v u) → Every P (put_in_order v us) → Every P (put_in_order v (u ∷ us))
    go (holds t) ih = simp t (h, g)
    go (fails t) ih = simp t (g.0, ih)

every_sorted : (P : Interval → Type 0) (vs : List Interval) → Every P vs → Every P (by_first_column vs)
unfolding by_first_column
every_sorted P [] h = tt
every_sorted P (v ∷ vs) h = every_put P v (by_first_column vs) h.0 (every_sorted P vs h.1)

put_rises : (v : Interval) (us : List Interval) → Every (Elsewhere (first_column v)) us → FirstsRise us → FirstsRise (put_in_order v us)
unfolding put_in_order no_later
put_rises v [] d r = (tt, tt)
put_rises v (u ∷ us) d r = go (truth (no_later v u)) (put_rises v us d.1 r.1)
  where
    go : Truth (no_later v u) → FirstsRise (put_in_order v us) → FirstsRise (put_in_order v (u ∷ us))
    go (holds t) ih =
        let before : first_column v < first_column u = omega (arith, leb-true (first_column v) (first_column u) t, d.0) in
        simp t ((before, every_imp (BeginsAfter (first_column u)) (BeginsAfter (first_column v)) us (λ w l. omega arith) r.0), r)
    go (fails t) ih = simp t (every_put (BeginsAfter (first_column u)) v us (leb-false (first_column v) (first_column u) t) r.0, ih)

sorted_rises : (vs : List Interval) → FirstsDiffer vs → FirstsRise (by_first_column vs)
unfolding by_first_column
sorted_rises [] d = tt
sorted_rises (v ∷ vs) d = put_rises v (by_first_column vs) (every_sorted (Elsewhere (first_column v)) vs d.0) (sorted_rises vs d.1)

-- an interval of a rising list is known by its first column
one_first : (x y : Interval) (vs : List Interval) → FirstsRise vs → is_kept x vs ≡ true → is_kept y vs ≡ true → first_column x ≡ first_column y → x ≡ y
unfolding is_kept
one_first x y [] r kx ky e = absurd (clash kx refl)
one_first x y (v ∷ vs) r kx ky e = go (truth (same_interval x v)) (truth (same_interval y v)) (λ a b. one_first x y vs r.1 a b e)
  where
    later : (w : Interval) → is_kept w vs ≡ true → first_column v < first_column w
    later w k = kept_every (BeginsAfter (first_column v)) w vs r.0 k

    go : Truth (same_interval x v) → Truth (same_interval y v) → (is_kept x vs ≡ true → is_kept y vs ≡ true → x ≡ y) → x ≡ y
    go (holds t) (holds u) ih = same_interval_is x v t ∙ sym (same_interval_is y v u)
    go (holds t) (fails u) ih = let q : first_column x ≡ first_column v = ap first_column (same_interval_is x v t) in absurd (omega (arith, later y (simp u at ky)))
    go (fails t) (holds u) ih = let q : first_column y ≡ first_column v = ap first_column (same_interval_is y v u) in absurd (omega (arith, later x (simp t at kx)))
    go (fails t) (fails u) ih = ih (simp t at kx) (simp u at ky)

-- those that are among a rising list, each once, begin at different columns
module _ (vs : List Interval) (r : FirstsRise vs) where
  differs : (u : Interval) (us : List Interval) → is_kept u vs ≡ true → is_kept u us ≡ false → ((x : Interval) → is_kept x us ≡ true → is_kept x vs ≡ true) → Every (Elsewhere (first_column u)) us
  unfolding is_kept
  differs u [] k n h = tt
  differs u (w ∷ us) k n h =
      let kept : is_kept w vs ≡ true = h w (head_kept w us) in (
        (λ e. clash (subst (λ x. is_kept x (w ∷ us) ≡ true) (sym (one_first u w vs r k kept e)) (head_kept w us)) n),
        differs u us k (or_right (same_interval u w) (is_kept u us) n) (λ x q. h x (rw q (or-true (same_interval x w)))),
      )

  firsts_differ : (us : List Interval) → Distinct us → ((x : Interval) → is_kept x us ≡ true → is_kept x vs ≡ true) → FirstsDiffer us
  unfolding is_kept
  firsts_differ [] d h = tt
  firsts_differ (u ∷ us) d h = (differs u us (h u (head_kept u us)) d.0 later, firsts_differ us d.1 later)
    where
      later : (x : Interval) → is_kept x us ≡ true → is_kept x vs ≡ true
      later x q = h x (rw q (or-true (same_interval x u)))

pub sorts : (us vs : List Interval) → Distinct us → SameIntervals us vs → FirstsRise vs → by_first_column us ≡ vs
sorts us vs d s r = one_list (by_first_column us) vs (λ x. sorted_same us x ∙ s x) (sorted_rises us (firsts_differ vs r us d (λ x k. sym (s x) ∙ k))) r

pub order_stays : (vs : List Interval) → FirstsRise vs → by_first_column vs ≡ vs
order_stays vs r = sorts vs vs (firsts_distinct vs r) (λ x. refl) r

pub ordered_exactly : (us vs : List Interval) → FirstsRise us → vs ≡ by_first_column us ↔ (SameIntervals vs us × FirstsRise vs)
ordered_exactly us vs r = (
  (λ e. let q : vs ≡ us = e ∙ order_stays us r in rw q ((λ _. refl), r)),
  λ h. one_list vs us h.0 h.1 r ∙ sym (order_stays us r),
)
