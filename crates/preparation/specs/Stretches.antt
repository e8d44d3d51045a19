-- The halving of a stretch, in the windows of its piece: how the blocks that have a place as a row are found.
--   splits_same length_splits            the bound on the depth does not matter; a stretch of k places has k - 1 splits
--   Stretch                              the windows from a number on are those of a stretch
--   stretch_whole                        a piece is a stretch
--   stretch_fits                         how many windows a stretch has
--   stretch_first stretch_second         its first two windows: from its first half to the rest, and back
--   stretch_left stretch_right           then those of its first half, then those of the rest
--   Lies stretch_window                  the rows of all of them are places of the stretch
use Rattle.std.specs.Prelude.{◌≡◌, refl, List, [], ◌∷◌, ◌++◌, ℕ, zero, suc, pred, ◌+◌, ◌-◌, ◌*◌, ◌/◌, ◌≤◌, ◌<◌, get_or, length}
use Rattle.std.proofs.Common.{sym, ◌∙◌, subst, append-nil, append_assoc, le_refl, arith, lt-ltb, le-ltb, length-append, get_or-append-add}
use Rattle.std.proofs.Math.ListN.{get_or-append}
use Rattle.definitions.specs.Lists.{Every}
use Rattle.definitions.specs.Blocks.{Split, splits, splits_of, Window, windows, windows_of}
use Rattle.definitions.proofs.Laws.Members.{every_imp}
use Rattle.logic.specs.Tests.{Order, less, more, order}
use Rattle.basics.specs.ListLaws.{every_at, every_append}
use Rattle.preparation.specs.Numbers.{length_windows, windows_append}
use Rattle.preparation.specs.Numbering.{no_window}

-- ---- the halving

halves : (f s k : ℕ) → 2 ≤ k
    → splits (suc f) s k ≡ record { first = s; middle = s + k / 2; end = s + k } ∷ (splits f s (k / 2) ++ splits f (s + k / 2) (k - k / 2))
unfolding splits
halves f s k l = rw (le-ltb k 2 l, splits)

single : (f s k : ℕ) → k < 2 → splits f s k ≡ []
unfolding splits
single zero s k l = refl
single (suc f) s k l = rw (lt-ltb k 2 l, splits)

pub splits_same : (f g s k : ℕ) → k ≤ f → k ≤ g → splits f s k ≡ splits g s k
splits_same zero g s k l r = single zero s k (omega arith) ∙ sym (single g s k (omega arith))
splits_same (suc f) zero s k l r = single (suc f) s k (omega arith) ∙ sym (single zero s k (omega arith))
splits_same (suc f) (suc g) s k l r = go (order k 2) (λ n. splits_same f g s (k / 2) (omega arith) (omega arith)) (λ n. splits_same f g (s + k / 2) (k - k / 2) (omega arith) (omega arith))
  where
    go : Order k 2 → (2 ≤ k → splits f s (k / 2) ≡ splits g s (k / 2)) → (2 ≤ k → splits f (s + k / 2) (k - k / 2) ≡ splits g (s + k / 2) (k - k / 2))
        → splits (suc f) s k ≡ splits (suc g) s k
    go (less t h) a b = single (suc f) s k h ∙ sym (single (suc g) s k h)
    go (more t h) a b = rw (halves f s k h, halves g s k h, a h, b h)

pub length_splits : (f s k : ℕ) → k ≤ f → length (splits f s k) ≡ pred k
length_splits zero s k l = let e : k ≡ 0 = omega arith in rw (single zero s k (omega arith), e)
length_splits (suc f) s k l = go (order k 2) (λ n. length_splits f s (k / 2) (omega arith)) (λ n. length_splits f (s + k / 2) (k - k / 2) (omega arith))
  where
    go : Order k 2 → (2 ≤ k → length (splits f s (k / 2)) ≡ pred (k / 2)) → (2 ≤ k → length (splits f (s + k / 2) (k - k / 2)) ≡ pred (k - k / 2))
        → length (splits (suc f) s k) ≡ pred k
    go (less t h) a b = rw (single (suc f) s k h) (omega arith)
    go (more t h) a b = rw (halves f s k h) (omega (arith, length-append (splits f s (k / 2)) (splits f (s + k / 2) (k - k / 2)), a h, b h))

-- ---- the windows of a stretch

-- from the first half of the k places from `start` on to the rest, and back
abbrev pub forth : ℕ → ℕ → Window
forth start k = record { row0 = start; rows = k / 2; col0 = start + k / 2; cols = k - k / 2 }

abbrev pub back : ℕ → ℕ → Window
back start k = record { row0 = start + k / 2; rows = k - k / 2; col0 = start; cols = k / 2 }

abbrev pub stretch_windows : ℕ → ℕ → List Window
stretch_windows start k = windows (splits k start k)

length_stretch : (start k : ℕ) → length (stretch_windows start k) ≡ 2 * pred k
length_stretch start k = length_windows (splits k start k) ∙ rw (length_splits k start k (le_refl k))

stretch_halves : (start k : ℕ) → 2 ≤ k
    → stretch_windows start k ≡ forth start k ∷ back start k ∷ (stretch_windows start (k / 2) ++ stretch_windows (start + k / 2) (k - k / 2))
unfolding windows
stretch_halves start zero l = absurd (omega arith)
stretch_halves start (suc f) l =
    let k = suc f in
    let a : start + k / 2 - start ≡ k / 2 = omega arith in
    let b : start + k - (start + k / 2) ≡ k - k / 2 = omega arith in
    rw (
      halves f start k l,
      splits_same f (k / 2) start (k / 2) (omega arith) (omega arith),
      splits_same f (k - k / 2) (start + k / 2) (k - k / 2) (omega arith) (omega arith),
      windows_append (splits (k / 2) start (k / 2)) (splits (k - k / 2) (start + k / 2) (k - k / 2)),
      a,
      b,
    )

-- the rows of a window are places of the stretch
pub record Lies (start k : ℕ) (w : Window) : Type 0 where
  pub from : start ≤ w.row0
  pub up_to : w.row0 + w.rows ≤ start + k

-- those of the two halves
lie_both : (start k : ℕ) (xs ys : List Window) → Every (Lies start (k / 2)) xs → Every (Lies (start + k / 2) (k - k / 2)) ys → Every (Lies start k) (xs ++ ys)
lie_both start k xs ys a b =
    every_append (Lies start k) xs ys
    (every_imp (Lies start (k / 2)) (Lies start k) xs (λ w x. record { from = x.from; up_to = omega (arith, x.up_to) }) a)
    (every_imp (Lies (start + k / 2) (k - k / 2)) (Lies start k) ys (λ w x. record { from = omega (arith, x.from); up_to = omega (arith, x.up_to) }) b)

windows_lie : (f start k : ℕ) → Every (Lies start k) (windows (splits f start k))
unfolding windows splits
windows_lie zero start k = tt
windows_lie (suc f) start k =
    go (order k 2)
    (lie_both start k (windows (splits f start (k / 2))) (windows (splits f (start + k / 2) (k - k / 2))) (windows_lie f start (k / 2)) (windows_lie f (start + k / 2) (k - k / 2)))
  where
    go : Order k 2 → Every (Lies start k) (windows (splits f start (k / 2)) ++ windows (splits f (start + k / 2) (k - k / 2))) → Every (Lies start k) (windows (splits (suc f) start k))
    go (less t h) rest = subst (λ (cs : List Split). Every (Lies start k) (windows cs)) (sym (single (suc f) start k h)) tt
    go (more t h) rest =
        subst (λ (cs : List Split). Every (Lies start k) (windows cs)) (sym (halves f start k h)) (
          record { from = omega arith; up_to = omega arith },
          (record { from = omega arith; up_to = omega arith }, rw (windows_append (splits f start (k / 2)) (splits f (start + k / 2) (k - k / 2))) rest),
        )

-- ---- in the windows of a piece

-- the windows from number s on are those of the stretch of k places from `start` on
pub record Stretch (ws : List Window) (s start k : ℕ) : Type 0 where
  pub before : List Window
  pub after : List Window
  pub number : length before ≡ s
  pub whole : ws ≡ before ++ (stretch_windows start k ++ after)

pub stretch_whole : (m : ℕ) → Stretch (windows_of m) 0 0 m
unfolding windows_of splits_of
stretch_whole m = record { before = []; after = []; number = refl; whole = sym (append-nil (windows (splits m 0 m))) }

module _ (ws : List Window) (s start k : ℕ) (h : Stretch ws s start k) where
  pub stretch_fits : s + 2 * pred k ≤ length ws
  stretch_fits =
      rw h.whole (omega (arith, h.number, length-append h.before (stretch_windows start k ++ h.after), length-append (stretch_windows start k) h.after, length_stretch start k))

  -- window j of the stretch
  stretch_at : (j : ℕ) → j < 2 * pred k → get_or ws (s + j) no_window ≡ get_or (stretch_windows start k) j no_window
  stretch_at j l =
      rw (h.whole, ← h.number)
      (get_or-append-add h.before (stretch_windows start k ++ h.after) j no_window
      ∙ get_or-append (stretch_windows start k) h.after no_window j (omega (arith, length_stretch start k)))

  pub stretch_window : (j : ℕ) → j < 2 * pred k → Lies start k (get_or ws (s + j) no_window)
  stretch_window j l = rw (stretch_at j l) (every_at (Lies start k) (stretch_windows start k) (windows_lie k start k) j no_window (omega (arith, length_stretch start k)))

  module _ (l : 2 ≤ k) where
    pub stretch_first : get_or ws s no_window ≡ forth start k
    stretch_first =
        let e : s + 0 ≡ s = omega arith in
        (rw e at (stretch_at 0 (omega arith))) ∙ rw (stretch_halves start k l)

    pub stretch_second : get_or ws (s + 1) no_window ≡ back start k
    stretch_second = stretch_at 1 (omega arith) ∙ rw (stretch_halves start k l)

    opened : ws ≡ h.before ++ (forth start k ∷ back start k ∷ ((stretch_windows start (k / 2) ++ stretch_windows (start + k / 2) (k - k / 2)) ++ h.after))
    opened = h.whole ∙ rw (stretch_halves start k l)

    pub stretch_left : Stretch ws (s + 2) start (k / 2)
    stretch_left = record {
      before = h.before ++ (forth start k ∷ back start k ∷ []);
      after = stretch_windows (start + k / 2) (k - k / 2) ++ h.after;
      number = omega (arith, h.number, length-append h.before (forth start k ∷ back start k ∷ []));
      whole = opened ∙ simp append_assoc;
    }

    pub stretch_right : Stretch ws (s + 2 * (k / 2)) (start + k / 2) (k - k / 2)
    stretch_right = record {
      before = h.before ++ (forth start k ∷ back start k ∷ stretch_windows start (k / 2));
      after = h.after;
      number = omega (arith, h.number, length-append h.before (forth start k ∷ back start k ∷ stretch_windows start (k / 2)), length_stretch start (k / 2));
      whole = opened ∙ simp append_assoc;
    }
