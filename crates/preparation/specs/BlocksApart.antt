-- Two blocks that share a row of the matrix have no column there in common.
--   tally_one tally_two      a pair that one block has is counted once, one that two have twice
--   windows_apart            two blocks of a piece
--   PlacedAt placed_at       the numbers of a block, by its piece and its window there
--   columns_apart            two blocks of all pieces
--   no_block                 numbers past the last block
use Rattle.std.specs.Prelude.{◌≡◌, true, cond, ◌⊎◌, ◌≢◌, List, [], ◌∷◌, ◌++◌, ℕ, zero, suc, ◌+◌, ◌-◌, ◌*◌, ◌≤◌, ◌<◌}
use Rattle.std.proofs.Common.{sym, ◌∙◌, inl, inr, arith, le-leb, lt-ltb}
use Rattle.std.proofs.Math.Path.{ap}
use Rattle.std.proofs.Math.ListN.{get_or, length, replicate, get_or-replicate}
use Rattle.std.proofs.Math.Seq.{get_or-append-add}
use Rattle.definitions.specs.Limits.{max_pieces, max_size, row_places}
use Rattle.definitions.specs.Lists.{padded}
use Rattle.definitions.specs.Blocks.{Window, windows_of}
use Rattle.logic.specs.Tests.{split_at, Truth, holds, fails, truth}
use Rattle.basics.specs.ListLaws.{every_at}
use Rattle.splits.specs.Windows.{spans, tally, Inside}
use Rattle.splits.proofs.Windows.{pair_once, windows_inside}
use Rattle.preparation.specs.Prepared.{size_at, Placement, placements_of, place, numbers_from, part_numbers, part_places, max_blocks, parts_of, row_in, col_in, cols_in, row_count_in, row_of, col_of, blocks_up_to}
use Rattle.preparation.specs.Numbers.{length_numbers}
use Rattle.preparation.specs.Placements.{size_small, length_windows_of}
use Rattle.preparation.specs.Numbering.{no_window, no_placement, numbered, placement_at}
use Rattle.preparation.specs.Parts.{row_is, col_is, cols_is, row_count_is, placed}

-- ---- the blocks of a piece

abbrev nth : List Window → ℕ → Window
nth ws j = get_or ws j no_window

tally_one : (i k : ℕ) (ws : List Window) (j : ℕ) → j < length ws → spans i k (nth ws j) ≡ true → 1 ≤ tally i k ws
unfolding tally
tally_one i k [] j l h = absurd (omega arith)
tally_one i k (w ∷ ws) zero l h = rw h (omega arith)
tally_one i k (w ∷ ws) (suc j) l h = go (tally_one i k ws j (omega arith) h) (truth (spans i k w))
  where
    go : 1 ≤ tally i k ws → Truth (spans i k w) → 1 ≤ cond (spans i k w) (suc (tally i k ws)) (tally i k ws)
    go ih (holds t) = rw t (omega arith)
    go ih (fails t) = rw t ih

tally_two : (i k : ℕ) (ws : List Window) (j j' : ℕ) → j < j' → j' < length ws → spans i k (nth ws j) ≡ true → spans i k (nth ws j') ≡ true → 2 ≤ tally i k ws
unfolding tally
tally_two i k [] j j' r l h h' = absurd (omega arith)
tally_two i k (w ∷ ws) j zero r l h h' = absurd (omega arith)
tally_two i k (w ∷ ws) zero (suc j') r l h h' = rw h (omega (arith, tally_one i k ws j' (omega arith) h'))
tally_two i k (w ∷ ws) (suc j) (suc j') r l h h' = go (tally_two i k ws j j' (omega arith) (omega arith) h h') (truth (spans i k w))
  where
    go : 2 ≤ tally i k ws → Truth (spans i k w) → 2 ≤ cond (spans i k w) (suc (tally i k ws)) (tally i k ws)
    go ih (holds t) = rw t (omega arith)
    go ih (fails t) = rw t ih

spans_from : (i k : ℕ) (w : Window) → w.row0 ≤ i → i < w.row0 + w.rows → w.col0 ≤ k → k < w.col0 + w.cols → spans i k w ≡ true
unfolding spans
spans_from i k w a b c d = rw (le-leb w.row0 i a, lt-ltb i (w.row0 + w.rows) b, le-leb w.col0 k c, lt-ltb k (w.col0 + w.cols) d)

-- two stretches do not meet
abbrev pub Apart : ℕ → ℕ → ℕ → ℕ → Type 0
Apart a k b n = (a + k ≤ b) ⊎ (b + n ≤ a)

module _ (m : ℕ) (small : m ≤ max_size) (j j' : ℕ) (differ : j ≢ j') (l : j < length (windows_of m)) (l' : j' < length (windows_of m)) where
  abbrev w : Window
  w = nth (windows_of m) j

  abbrev v : Window
  v = nth (windows_of m) j'

  w_inside : Inside m w
  w_inside = every_at (Inside m) (windows_of m) (windows_inside m small) j no_window l

  v_inside : Inside m v
  v_inside = every_at (Inside m) (windows_of m) (windows_inside m small) j' no_window l'

  -- no pair of places is in both
  no_pair : (i k : ℕ) → spans i k w ≡ true → spans i k v ≡ true → tally i k (windows_of m) ≡ 1 → ⊥
  no_pair i k s s' once = go (split_at j j')
    where
      go : (j < j') ⊎ (j' ≤ j) → ⊥
      go (inl r) = omega (arith, tally_two i k (windows_of m) j j' r l' s s', once)
      go (inr r) = omega (arith, tally_two i k (windows_of m) j' j (omega arith) l s' s, once)

  module _ (i : ℕ) (wl : w.row0 ≤ i) (wh : i < w.row0 + w.rows) (vl : v.row0 ≤ i) (vh : i < v.row0 + v.rows) where
    no_column : (k : ℕ) → w.col0 ≤ k → k < w.col0 + w.cols → v.col0 ≤ k → k < v.col0 + v.cols → ⊥
    no_column k a b c d =
        no_pair i k (spans_from i k w wl wh a b) (spans_from i k v vl vh c d)
        (pair_once m i k small (omega (arith, w_inside.rows_in)) (omega (arith, w_inside.cols_in_lem)) (other w_inside.apart))
      where
        other : (w.row0 + w.rows ≤ w.col0) ⊎ (w.col0 + w.cols ≤ w.row0) → i ≢ k
        other (inl h) e = omega arith
        other (inr h) e = omega arith

    windows_apart : 1 ≤ w.cols → 1 ≤ v.cols → Apart w.col0 w.cols v.col0 v.cols
    windows_apart ws vs = go (split_at v.col0 (w.col0 + w.cols)) (split_at w.col0 (v.col0 + v.cols)) (split_at w.col0 v.col0)
      where
        go : (v.col0 < w.col0 + w.cols) ⊎ (w.col0 + w.cols ≤ v.col0) → (w.col0 < v.col0 + v.cols) ⊎ (v.col0 + v.cols ≤ w.col0)
            → (w.col0 < v.col0) ⊎ (v.col0 ≤ w.col0) → Apart w.col0 w.cols v.col0 v.cols
        go (inr a) _ _ = inl a
        go (inl a) (inr b) _ = inr b
        go (inl a) (inl b) (inl c) = absurd (no_column v.col0 (omega arith) (omega arith) (omega arith) (omega arith))
        go (inl a) (inl b) (inr c) = absurd (no_column w.col0 (omega arith) (omega arith) (omega arith) (omega arith))

-- ---- the blocks of all pieces

module _ (p : ℕ) (sizes : List ℕ) (few : p ≤ max_pieces) where
  -- what the numbers of a block of piece d are
  record PlacedAt (b d : ℕ) : Type 0 where
    window : ℕ
    window_in_lem : window < length (windows_of (size_at p sizes d))
    number : b ≡ blocks_up_to p sizes d + window
    some : 1 ≤ (nth (windows_of (size_at p sizes d)) window).cols
    inside : Inside (size_at p sizes d) (nth (windows_of (size_at p sizes d)) window)
    row : row_in (parts_of p sizes) b ≡ row_places * d + (nth (windows_of (size_at p sizes d)) window).row0
    rows : row_count_in (parts_of p sizes) b ≡ (nth (windows_of (size_at p sizes d)) window).rows
    col : col_in (parts_of p sizes) b ≡ row_places - ((nth (windows_of (size_at p sizes d)) window).col0 + (nth (windows_of (size_at p sizes d)) window).cols)
    cols : cols_in (parts_of p sizes) b ≡ (nth (windows_of (size_at p sizes d)) window).cols

  placed_at : (b : ℕ) → b < length (placements_of p sizes) → (d : ℕ) × PlacedAt b d
  placed_at b l =
      let n = numbered p sizes b l in
      let m = size_at p sizes n.piece in
      let e : get_or (placements_of p sizes) b no_placement ≡ place n.piece (nth (windows_of m) n.window)
      = ap (λ (c : ℕ). get_or (placements_of p sizes) c no_placement) n.number ∙ placement_at p sizes n.piece n.window (omega (arith, n.piece_in_lem)) n.window_in_lem in
      let h = rw e at (placed p sizes few b l) in (
        n.piece,
        record {
          window = n.window;
          window_in_lem = omega (arith, length_windows_of m (size_small p sizes n.piece), n.window_in_lem);
          number = n.number;
          some = h.some;
          inside = h.inside;
          row = row_is p sizes b l ∙ ap row_of e;
          rows = row_count_is p sizes b l ∙ ap (λ (x : Placement). x.window.rows) e;
          col = col_is p sizes b l ∙ ap col_of e;
          cols = cols_is p sizes b l ∙ ap (λ (x : Placement). x.window.cols) e;
        },
      )

  module _ (b c x : ℕ) (bl : row_in (parts_of p sizes) b ≤ x) (bh : x < row_in (parts_of p sizes) b + row_count_in (parts_of p sizes) b)
      (cl : row_in (parts_of p sizes) c ≤ x) (ch : x < row_in (parts_of p sizes) c + row_count_in (parts_of p sizes) c) where
    -- they are of one piece, since row x is
    same_piece : (d e : ℕ) → PlacedAt b d → PlacedAt c e → e ≡ d
    same_piece d e f g =
        omega (arith, f.row, f.rows, f.inside.rows_in, g.row, g.rows, g.inside.rows_in, size_small p sizes d, size_small p sizes e, bl, bh, cl, ch)

    in_piece : (d : ℕ) → PlacedAt b d → PlacedAt c d → b ≢ c → Apart (col_in (parts_of p sizes) b) (cols_in (parts_of p sizes) b) (col_in (parts_of p sizes) c) (cols_in (parts_of p sizes) c)
    in_piece d f g differ =
        let i = x - row_places * d in
        turned (windows_apart (size_at p sizes d) (size_small p sizes d) f.window g.window (λ e. differ (f.number ∙ ap (λ (j : ℕ). blocks_up_to p sizes d + j) e ∙ sym g.number))
        f.window_in_lem g.window_in_lem i (omega (arith, f.row)) (omega (arith, f.row, f.rows)) (omega (arith, g.row)) (omega (arith, g.row, g.rows)) f.some g.some)
      where
        small : size_at p sizes d ≤ max_size
        small = size_small p sizes d

        -- the columns of the matrix stand backwards
        turned : Apart (nth (windows_of (size_at p sizes d)) f.window).col0 (nth (windows_of (size_at p sizes d)) f.window).cols
            (nth (windows_of (size_at p sizes d)) g.window).col0 (nth (windows_of (size_at p sizes d)) g.window).cols
            → Apart (col_in (parts_of p sizes) b) (cols_in (parts_of p sizes) b) (col_in (parts_of p sizes) c) (cols_in (parts_of p sizes) c)
        turned (inl h) = inr (omega (arith, f.col, f.cols, g.col, g.cols, f.inside.cols_in_lem, g.inside.cols_in_lem, small))
        turned (inr h) = inl (omega (arith, f.col, f.cols, g.col, g.cols, f.inside.cols_in_lem, g.inside.cols_in_lem, small))

    -- the columns of two blocks that have row x in common
    pub columns_apart : b < length (placements_of p sizes) → c < length (placements_of p sizes) → b ≢ c
        → Apart (col_in (parts_of p sizes) b) (cols_in (parts_of p sizes) b) (col_in (parts_of p sizes) c) (cols_in (parts_of p sizes) c)
    columns_apart lb lc differ =
        let f = placed_at b lb in
        let g = placed_at c lc in
        let same = same_piece f.0 g.0 f.1 g.1 in
        in_piece f.0 f.1 (rw same at g.1) differ

  -- a number past the last block has no columns
  pub no_block : (b : ℕ) → length (placements_of p sizes) ≤ b → b < max_blocks → cols_in (parts_of p sizes) b ≡ 0
  unfolding parts_of padded
  no_block b l h =
      let xs = numbers_from 0 (placements_of p sizes) in
      let long = length_numbers 0 (placements_of p sizes) in
      let i = part_numbers * b + 3 - length xs in
      let e : part_numbers * b + 3 ≡ length xs + i = omega (arith, long) in
      ap (λ (k : ℕ). get_or (xs ++ replicate (part_places - length xs) 0) k 0) e ∙ get_or-append-add xs (replicate (part_places - length xs) 0) i 0
      ∙ get_or-replicate (part_places - length xs) i 0 0 (omega (arith, long))
