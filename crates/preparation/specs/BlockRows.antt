-- Which blocks of a piece have a vertex as a row, and as which row.
--   row_inside row_outside       a vertex of the piece: its row where the block's rows have its place, else none
--   row_absent                   a vertex that the piece does not have
--   row_elsewhere                no block of a stretch has a vertex as a row whose place is outside the stretch
use Rattle.std.specs.Prelude.{◌≡◌, ◌⊎◌, ◌≢◌, ℕ, pred, ◌+◌, ◌-◌, ◌*◌, ◌≤◌, ◌<◌, get_or, length}
use Rattle.std.proofs.Math.Path.{sym}
use Rattle.std.proofs.Common.{◌∙◌, inl, inr, ⊎_elim, arith}
use Rattle.std.proofs.Math.Option.{none, some}
use Rattle.definitions.specs.Limits.{max_size}
use Rattle.definitions.specs.Network.{Piece, size_of}
use Rattle.definitions.specs.Blocks.{Window, windows_of, block_of}
use Rattle.definitions.specs.Labelling.{place_of}
use Rattle.basics.specs.ListLaws.{Different, every_at}
use Rattle.basics.specs.ListPlaces.{different_at, place_of_none, place_of_at}
use Rattle.basics.specs.PiecePlaces.{block_rows, row_vertex}
use Rattle.splits.specs.Windows.{Inside}
use Rattle.splits.proofs.Windows.{windows_inside}
use Rattle.preparation.specs.Numbering.{no_window}
use Rattle.preparation.specs.Stretches.{Stretch, stretch_fits, stretch_window}

-- ---- the rows of a block

module _ (d : ℕ) (q : Piece) (w : Window) where
  -- no place of the rows has v
  row_none : (v : ℕ) → ((r : ℕ) → r < w.rows → get_or q.vertices (w.row0 + r) 0 ≢ v) → place_of v 0 (block_of d q w).rows ≡ none
  row_none v f =
      place_of_none v 0 (block_of d q w).rows (λ r l e. let n : r < w.rows = rw (block_rows d q w) at l in f r n (sym (row_vertex d q w r n) ∙ e))

  module _ (inside : w.row0 + w.rows ≤ size_of q) where
    pub row_absent : (v : ℕ) → ((i : ℕ) → i < size_of q → get_or q.vertices i 0 ≢ v) → place_of v 0 (block_of d q w).rows ≡ none
    row_absent v f = row_none v (λ r l. f (w.row0 + r) (omega arith))

    module _ (apart : Different q.vertices) (v i : ℕ) (l : i < size_of q) (h : get_or q.vertices i 0 ≡ v) where
      -- v stands at no other place
      only : (r : ℕ) → r < w.rows → get_or q.vertices (w.row0 + r) 0 ≡ v → w.row0 + r ≡ i
      unfolding size_of
      only r s e = different_at q.vertices apart (w.row0 + r) i (omega arith) l (e ∙ sym h)

      pub row_inside : w.row0 ≤ i → i < w.row0 + w.rows → place_of v 0 (block_of d q w).rows ≡ some (i - w.row0)
      row_inside a b =
          let r = i - w.row0 in
          let n : r < w.rows = omega arith in
          let e : w.row0 + r ≡ i = omega arith in
          let z : 0 + r ≡ r = omega arith in
          place_of_at v 0 (block_of d q w).rows r (omega (arith, block_rows d q w)) (row_vertex d q w r n ∙ rw e h)
          (λ j s k. let x : w.row0 + j ≡ i = only j (omega arith) (sym (row_vertex d q w j (omega arith)) ∙ k) in omega arith)
          ∙ rw z

      pub row_outside : (i < w.row0) ⊎ (w.row0 + w.rows ≤ i) → place_of v 0 (block_of d q w).rows ≡ none
      row_outside (inl a) = row_none v (λ r s e. let x : w.row0 + r ≡ i = only r s e in omega arith)
      row_outside (inr a) = row_none v (λ r s e. let x : w.row0 + r ≡ i = only r s e in omega arith)

-- ---- the blocks of a stretch

pub row_elsewhere : (d : ℕ) (q : Piece) (s start k : ℕ) → size_of q ≤ max_size → Stretch (windows_of (size_of q)) s start k → Different q.vertices
    → (v i : ℕ) → i < size_of q → get_or q.vertices i 0 ≡ v → (i < start) ⊎ (start + k ≤ i)
    → (j : ℕ) → j < 2 * pred k → place_of v 0 (block_of d q (get_or (windows_of (size_of q)) (s + j) no_window)).rows ≡ none
row_elsewhere d q s start k small h apart v i l e out j r =
    let m = size_of q in
    let w = get_or (windows_of m) (s + j) no_window in
    let n : s + j < length (windows_of m) = omega (arith, stretch_fits (windows_of m) s start k h) in
    let inside : Inside m w = every_at (Inside m) (windows_of m) (windows_inside m small) (s + j) no_window n in
    let lies = stretch_window (windows_of m) s start k h j r in
    row_outside d q w inside.rows_in apart v i l e
    (⊎_elim (λ (a : i < start). inl (omega (arith, lies.from))) (λ (a : start + k ≤ i). inr (omega (arith, lies.up_to))) out)
