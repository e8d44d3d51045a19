-- Two stretches of columns side by side.
--   runs_side                  their runs stand one after the other, or the last of one and the first of the other are one
--   runs_break                 where no parent goes on they stand one after the other
--   runs_one                   a stretch of one parent is one interval
use Rattle.std.specs.Prelude.{◌≡◌, refl, ◌&&◌, List, [], ◌∷◌, ◌++◌, ℕ, zero, suc, pred, ◌+◌, ◌≤◌, ◌<◌, eqb}
use Rattle.std.proofs.Common.{ap, le_refl, zero-add, add-zero, suc-add, add-suc, arith, eq-eqb}
use Rattle.definitions.specs.Lists.{Every}
use Rattle.definitions.specs.Best.{Best, nobody, by}
use Rattle.definitions.specs.Intervals.{Interval, interval, adjoins, joined, prepend, prepend_column, runs, Rising}
use Rattle.definitions.proofs.Laws.RunProofs.{tag, tag_is, adjoin, runs_rising, IsRun, Longest, runs_longest}
use Rattle.logic.specs.Tests.{Truth, holds, fails, truth}
use Rattle.heap_laws.specs.Sides.{Side, apart, meets, Break}

side_prepend : (p c a : ℕ) (xs ys zs : List Interval) → c < a → Rising a ys → Side a xs ys zs → Side a (prepend (interval p c c) xs) ys (prepend (interval p c c) zs)
unfolding prepend adjoins joined
side_prepend p c a [] [] zs l r (apart q) = apart (rw q)
side_prepend p c a [] (interval p' f' l' ∷ ys) zs l r (apart q) = go (truth (adjoins (interval p c c) (interval p' f' l')))
  where
    go : Truth (adjoins (interval p c c) (interval p' f' l')) → Side a (interval p c c ∷ []) (interval p' f' l' ∷ ys) (prepend (interval p c c) zs)
    go (holds t) =
        let j = adjoin (interval p c c) (interval p' f' l') t in
        let x : c ≡ pred a = omega arith in
        let y : f' ≡ a = omega arith in
        meets [] ys p c l' (ap (λ (n : ℕ). interval p c n ∷ []) x) (rw (j.0, y)) (rw (q, t))
    go (fails t) = apart (rw (q, t))
side_prepend p c a (x ∷ xs) ys zs l r (apart q) = go (truth (adjoins (interval p c c) x))
  where
    go : Truth (adjoins (interval p c c) x) → Side a (prepend (interval p c c) (x ∷ xs)) ys (prepend (interval p c c) zs)
    go (holds t) = apart (rw (q, t))
    go (fails t) = apart (rw (q, t))
side_prepend p c a xs ys zs l r (meets us vs p' f' l' qx qy qz) = go us qx qz
  where
    go : (us : List Interval) → xs ≡ us ++ interval p' f' (pred a) ∷ [] → zs ≡ us ++ interval p' f' l' ∷ vs → Side a (prepend (interval p c c) xs) ys (prepend (interval p c c) zs)
    go [] qx qz = first (truth (adjoins (interval p c c) (interval p' f' l')))
      where
        first : Truth (eqb p p' && eqb (suc c) f') → Side a (prepend (interval p c c) xs) ys (prepend (interval p c c) zs)
        first (holds t) = let j = adjoin (interval p c c) (interval p' f' l') t in meets [] vs p c l' (rw (qx, t)) (rw j.0 qy) (rw (qz, t))
        first (fails t) = meets (interval p c c ∷ []) vs p' f' l' (rw (qx, t)) qy (rw (qz, t))
    go (u ∷ us) qx qz = first (truth (adjoins (interval p c c) u))
      where
        first : Truth (adjoins (interval p c c) u) → Side a (prepend (interval p c c) xs) ys (prepend (interval p c c) zs)
        first (holds t) = meets (joined (interval p c c) u ∷ us) vs p' f' l' (rw (qx, t)) qy (rw (qz, t))
        first (fails t) = meets (interval p c c ∷ u ∷ us) vs p' f' l' (rw (qx, t)) qy (rw (qz, t))

side_column : (c a : ℕ) (x : Best) (xs ys zs : List Interval) → c < a → Rising a ys → Side a xs ys zs → Side a (prepend_column c x xs) ys (prepend_column c x zs)
unfolding prepend_column
side_column c a nobody xs ys zs l r s = s
side_column c a (by p z) xs ys zs l r s = side_prepend p c a xs ys zs l r s

pub runs_side : (w : ℕ → Best) (c n m : ℕ) → Side (c + n) (runs w c n) (runs w (c + n) m) (runs w c (n + m))
unfolding runs
runs_side w c zero m = apart (rw (zero-add, add-zero))
runs_side w c (suc n) m =
    rw (suc-add, add-suc c n, ← suc-add c n)
    (side_column c (suc c + n) (w c) (runs w (suc c) n) (runs w (suc c + n) m) (runs w (suc c) (n + m)) (omega arith) (runs_rising w (suc c + n) m) (runs_side w (suc c) n m))

pub every_parts : (P : Interval → Type 0) (xs ys : List Interval) → Every P (xs ++ ys) → Every P xs × Every P ys
every_parts P [] ys h = (tt, h)
every_parts P (x ∷ xs) ys h = let k = every_parts P xs ys h.1 in ((h.0, k.0), k.1)

pub runs_break : (w : ℕ → Best) (c n m : ℕ) → Break w (c + n + m) (c + n) → runs w c (n + m) ≡ runs w c n ++ runs w (c + n) m
runs_break w c n m b = go (runs_side w c n m)
  where
    go : Side (c + n) (runs w c n) (runs w (c + n) m) (runs w c (n + m)) → runs w c (n + m) ≡ runs w c n ++ runs w (c + n) m
    go (apart q) = q
    go (meets us vs p f l qx qy qz) =
        let x : IsRun w c n p f (pred (c + n)) = (every_parts (Longest w c n) us (interval p f (pred (c + n)) ∷ []) (rw qx at (runs_longest w c n))).1.0 in
        let ys : Every (Longest w (c + n) m) (interval p (c + n) l ∷ vs) = rw qy at (runs_longest w (c + n) m) in
        let y : IsRun w (c + n) m p (c + n) l = ys.0 in
        absurd (b p (omega arith) (omega arith) (x.owned (pred (c + n)) x.ordered (le_refl (pred (c + n)))) (y.owned (c + n) (le_refl (c + n)) y.ordered))

-- ---- a stretch of one parent

prepend_column_tag : (p c : ℕ) (x : Best) (vs : List Interval) → tag x ≡ suc p → prepend_column c x vs ≡ prepend (interval p c c) vs
unfolding prepend_column
prepend_column_tag p c x vs h = rw (tag_is x p h).1

pub runs_one : (w : ℕ → Best) (p c n : ℕ) → ((k : ℕ) → c ≤ k → k < c + suc n → tag (w k) ≡ suc p) → runs w c (suc n) ≡ interval p c (c + n) ∷ []
unfolding runs prepend adjoins joined
runs_one w p c zero h = rw (prepend_column_tag p c (w c) [] (h c (omega arith) (omega arith)), add-zero)
runs_one w p c (suc n) h =
    rw (prepend_column_tag p c (w c) (runs w (suc c) (suc n)) (h c (omega arith) (omega arith)), runs_one w p (suc c) n (λ k a b. h k (omega arith) (omega arith)))
    (simp (eq-eqb p p refl, eq-eqb (suc c) (suc c) refl, add-suc, suc-add))
