-- A change of some columns as an edit of the runs.
--   cut_at_le                   a cut trims at most one interval
--   before_runs from_runs       the two sides of a cut are the runs of these columns
--   edited                      columns a up to b change: the runs before a, the new ones, the runs from b on
--   edited_new                  inserted are those of the new ones that were not there, and one for each cut that trims
use Rattle.std.specs.Prelude.{◌≡◌, refl, true, false, ◌&&◌, ◌≢◌, ltb, leb}
use Rattle.std.proofs.Math.Bool.{or-true, and-false}
use mathlib.Core.List.{List, [], ◌∷◌, ◌++◌, append-nil, append_assoc}
use Prim.Native.Nat.{ℕ, suc, pred, ◌+◌, ◌-◌, ◌≤◌, ◌<◌, min, max}
use Rattle.std.proofs.Common.{le_refl, zero-add}
use native.Mathlib.Omega.{arith}
use borrow.Author.Tests.{lt-ltb, le-ltb, le-leb, lt-leb, ne_eqb}
use Rattle.definitions.specs.Lists.{Every}
use Rattle.definitions.specs.Best.{Best}
use Rattle.definitions.specs.Intervals.{Interval, interval, runs, same_interval, is_kept, count_new, Rising}
use Rattle.definitions.proofs.Laws.Members.{every_imp}
use Rattle.definitions.proofs.Laws.OrderLaws.{rising_after, Elsewhere, not_elsewhere, not_after}
use Rattle.definitions.proofs.Laws.RunProofs.{same_interval_refl, runs_same, runs_rising, IsRun, Longest, runs_longest}
use Rattle.logic.specs.Tests.{Order, less, more, order, Truth, holds, fails, truth}
use Rattle.basics.specs.ListLaws.{every_snoc}
use Rattle.heap_laws.proofs.Sides.{every_parts, runs_side, runs_break}
use Rattle.heap_laws.specs.Sides.{Side, apart, meets, Break}
use Rattle.heap_laws.proofs.Counting.{is_kept_append, count_new_append, count_new_tail}
use Rattle.heap_laws.specs.Edits.{before, from, cut_at}

pub cut_at_le : (a : ℕ) (vs : List Interval) → cut_at a vs ≤ 1
unfolding cut_at
cut_at_le a [] = omega arith
cut_at_le a (interval p f l ∷ vs) = go (truth (ltb f a && leb a l)) (cut_at_le a vs)
  where
    go : Truth (ltb f a && leb a l) → cut_at a vs ≤ 1 → cut_at a (interval p f l ∷ vs) ≤ 1
    go (holds t) h = simp t (omega arith)
    go (fails t) h = simp t h

-- ---- a cut at a column where two stretches meet

cut_append : (a : ℕ) (xs ys : List Interval) → (before a (xs ++ ys) ≡ before a xs ++ before a ys) × (from a (xs ++ ys) ≡ from a xs ++ from a ys)
unfolding before from
cut_append a [] ys = (refl, refl)
cut_append a (interval p f l ∷ xs) ys = let h = cut_append a xs ys in (first (truth (ltb f a)) h.0, last (truth (ltb l a)) h.1)
  where
    first : Truth (ltb f a) → before a (xs ++ ys) ≡ before a xs ++ before a ys → before a (interval p f l ∷ (xs ++ ys)) ≡ before a (interval p f l ∷ xs) ++ before a ys
    first (holds t) h = simp t (rw h)
    first (fails t) h = simp t (rw h)

    last : Truth (ltb l a) → from a (xs ++ ys) ≡ from a xs ++ from a ys → from a (interval p f l ∷ (xs ++ ys)) ≡ from a (interval p f l ∷ xs) ++ from a ys
    last (holds t) h = simp t (rw h)
    last (fails t) h = simp t (rw h)

cut_right : (a lo : ℕ) (vs : List Interval) → a ≤ lo → Rising lo vs → (before a vs ≡ []) × (from a vs ≡ vs) × (cut_at a vs ≡ 0)
unfolding before from cut_at
cut_right a lo [] h r = (refl, refl, refl)
cut_right a lo (interval p f l ∷ vs) h r =
    let k = cut_right a (suc l) vs (omega arith) r.2 in
    let t : max f a ≡ f = omega arith in
    (simp (le-ltb f a (omega arith)) k.0, simp (le-ltb l a (omega arith), t, k.1), simp (le-ltb f a (omega arith)) k.2)

module _ (w : ℕ → Best) where
  cut_left : (c n : ℕ) (vs : List Interval) → Every (Longest w c n) vs → (before (c + n) vs ≡ vs) × (from (c + n) vs ≡ [])
  unfolding before from
  cut_left c n [] g = (refl, refl)
  cut_left c n (interval p f l ∷ vs) (g, gs) =
      let h = cut_left c n vs gs in
      let t : min l (pred (c + n)) ≡ l = omega arith in
      (simp (lt-ltb f (c + n) (omega arith), t, h.0), simp (lt-ltb l (c + n) g.high) h.1)

  cut_side : (c n : ℕ) (xs ys zs : List Interval) → Every (Longest w c n) xs → Rising (c + n) ys → Side (c + n) xs ys zs
      → (before (c + n) zs ≡ xs) × (from (c + n) zs ≡ ys)
  unfolding before from
  cut_side c n xs ys zs gx gy (apart q) =
      let k = cut_append (c + n) xs ys in
      let x = cut_left c n xs gx in
      let y = cut_right (c + n) (c + n) ys (le_refl (c + n)) gy in
      (rw (q, k.0, x.0, y.0, append-nil), rw (q, k.1, x.1, y.1))
  cut_side c n xs ys zs gx gy (meets us vs p f l qx qy qz) =
      let gs : Every (Longest w c n) us × Every (Longest w c n) (interval p f (pred (c + n)) ∷ []) = every_parts (Longest w c n) us (interval p f (pred (c + n)) ∷ []) (rw qx at gx) in
      let h : Rising (c + n) (interval p (c + n) l ∷ vs) = rw qy at gy in
      let g : IsRun w c n p f (pred (c + n)) = gs.1.0 in
      let k = cut_append (c + n) us (interval p f l ∷ vs) in
      let x = cut_left c n us gs.0 in
      let y = cut_right (c + n) (suc l) vs (omega arith) h.2 in
      let s : min l (pred (c + n)) ≡ pred (c + n) = omega arith in
      let t : max f (c + n) ≡ c + n = omega arith in
      (rw (qx, qz, k.0, x.0, lt-ltb f (c + n) (omega arith), s, y.0), rw (qy, qz, k.1, x.1, le-ltb l (c + n) h.1, t, y.1))

cut_runs : (w : ℕ → Best) (n a : ℕ) → a ≤ n → (before a (runs w 0 n) ≡ runs w 0 a) × (from a (runs w 0 n) ≡ runs w a (n - a))
cut_runs w n a h =
    let z : a + (n - a) ≡ n = omega arith in
    rw (zero-add, z) at
    (cut_side w 0 a (runs w 0 a) (runs w (0 + a) (n - a)) (runs w 0 (a + (n - a))) (runs_longest w 0 a) (runs_rising w (0 + a) (n - a)) (runs_side w 0 a (n - a)))

before_runs : (w : ℕ → Best) (n a : ℕ) → a ≤ n → before a (runs w 0 n) ≡ runs w 0 a
before_runs w n a h = (cut_runs w n a h).0

from_runs : (w : ℕ → Best) (n a : ℕ) → a ≤ n → from a (runs w 0 n) ≡ runs w a (n - a)
from_runs w n a h = (cut_runs w n a h).1

-- ---- what a cut inserts

-- it begins before column c
abbrev Earlier : ℕ → Interval → Type 0
Earlier c (interval p f l) = f < c

-- of the intervals on either side of a cut only a trimmed one is new; us are intervals before vs
cut_new : (a : ℕ) (us vs : List Interval) (lo : ℕ) → Every (Earlier lo) us → Rising lo vs
    → (count_new (before a vs) (us ++ vs) ≡ cut_at a vs) × (count_new (from a vs) (us ++ vs) ≡ cut_at a vs)
unfolding before from cut_at count_new is_kept same_interval
cut_new a us [] lo h r = (refl, refl)
cut_new a us (interval p f l ∷ vs) lo h r =
    go (order f a) (order l a)
    (rw (append_assoc us (interval p f l ∷ []) vs) at
    (cut_new a (us ++ interval p f l ∷ []) vs (suc l) (every_snoc (Earlier (suc l)) us (interval p f l) (every_imp (Earlier lo) (Earlier (suc l)) us earlier h) (omega arith)) r.2))
  where
    earlier : (v : Interval) → Earlier lo v → Earlier (suc l) v
    earlier (interval _ _ _) k = omega arith

    elsewhere : (c : ℕ) → lo ≤ c → (v : Interval) → Earlier lo v → Elsewhere c v
    elsewhere c q (interval _ _ _) k = omega arith

    here : is_kept (interval p f l) (us ++ interval p f l ∷ vs) ≡ true
    here = simp (is_kept_append, same_interval_refl, or-true)

    tail : count_new vs (us ++ interval p f l ∷ vs) ≡ 0
    tail = rw (append_assoc us (interval p f l ∷ []) vs) at (count_new_tail (us ++ interval p f l ∷ []) vs)

    gone : (f' l' : ℕ) → lo ≤ f' → f' ≤ l → same_interval (interval p f' l') (interval p f l) ≡ false → is_kept (interval p f' l') (us ++ interval p f l ∷ vs) ≡ false
    gone f' l' x y t =
        rw (
          is_kept_append,
          not_elsewhere (interval p f' l') us (every_imp (Earlier lo) (Elsewhere f') us (elsewhere f' x) h),
          t,
          not_after (interval p f' l') vs (rising_after f' (suc l) vs (omega arith) r.2),
        )

    go : Order f a → Order l a → (count_new (before a vs) (us ++ interval p f l ∷ vs) ≡ cut_at a vs) × (count_new (from a vs) (us ++ interval p f l ∷ vs) ≡ cut_at a vs)
        → (count_new (before a (interval p f l ∷ vs)) (us ++ interval p f l ∷ vs) ≡ cut_at a (interval p f l ∷ vs))
        × (count_new (from a (interval p f l ∷ vs)) (us ++ interval p f l ∷ vs) ≡ cut_at a (interval p f l ∷ vs))
    go (less t x) (less u y) ih =
        let z : min l (pred a) ≡ l = omega arith in
        (simp (t, z, here, lt-leb a l y) ih.0, simp (u, t, lt-leb a l y) ih.1)
    go (less t x) (more u y) ih =
        let k = cut_right a (suc l) vs (omega arith) r.2 in
        let z : min l (pred a) ≡ pred a = omega arith in
        let w : max f a ≡ a = omega arith in
        let n : pred a ≢ l = omega arith in
        let m : a ≢ f = omega arith in (
          simp (t, z, gone f (pred a) r.0 r.1 (simp (ne_eqb (pred a) l n, and-false)), le-leb a l y, k.0),
          simp (t, u, w, gone a l (omega arith) y (simp (ne_eqb a f m, and-false)), le-leb a l y, k.1, tail),
        )
    go (more t x) _ ih =
        let k = cut_right a (suc l) vs (omega arith) r.2 in
        let w : max f a ≡ f = omega arith in
        (simp (t, k.0, k.2), simp (t, le-ltb l a (omega arith), w, here, k.1, k.2, tail))

-- ---- a change of the columns from a up to b

module _ (w w' : ℕ → Best) (n a b : ℕ) (ab : a ≤ b) (bn : b ≤ n)
    (left : (k : ℕ) → k < a → w' k ≡ w k) (right : (k : ℕ) → b ≤ k → k < n → w' k ≡ w k)
    (break-a : Break w' n a) (break-b : Break w' n b) where
  pub edited : runs w' 0 n ≡ before a (runs w 0 n) ++ (runs w' a (b - a) ++ from b (runs w 0 n))
  edited =
      let x : a + (n - a) ≡ n = omega arith in
      let y : b - a + (n - b) ≡ n - a = omega arith in
      let z : a + (b - a) ≡ b = omega arith in
      let u : b + (n - b) ≡ n = omega arith in
      let first : runs w' 0 n ≡ runs w' 0 a ++ runs w' a (n - a) = rw (zero-add, x) at (runs_break w' 0 a (n - a) (rw (zero-add, x) break-a)) in
      let second : runs w' a (n - a) ≡ runs w' a (b - a) ++ runs w' b (n - b) = rw (z, y) at (runs_break w' a (b - a) (n - b) (rw (z, u) break-b)) in
      rw (first, second, before_runs w n a (omega arith), from_runs w n b bn, runs_same w' w 0 a (λ k _ h. left k (omega arith)), runs_same w' w b (n - b) (λ k h l. right k h (omega arith)))

  pub edited_new : count_new (runs w' 0 n) (runs w 0 n) ≡ cut_at a (runs w 0 n) + (count_new (runs w' a (b - a)) (runs w 0 n) + cut_at b (runs w 0 n))
  edited_new = rw (edited, count_new_append, count_new_append, (cut_new a [] (runs w 0 n) 0 tt (runs_rising w 0 n)).0, (cut_new b [] (runs w 0 n) 0 tt (runs_rising w 0 n)).1)
