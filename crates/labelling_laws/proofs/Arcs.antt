-- The blocks of an accepted network fit the labelling, their arcs are the network's, and how many rows and columns they have.
--   blocks_fit                       every block fits
--   of_piece                         an arc of a block is one of the block's piece
--   walk_to_blocks walk_to_pieces    a walk over the pieces is one over the blocks, and back
--   all_rows all_cols                at most the weight
--   few_closed open_none             the closed columns of a block; none where every entry is a number
--   all_inserted                     the intervals that all calls can insert
use Rattle.std.specs.Prelude.{◌≡◌, true, false, ℕ, zero, suc, ◌+◌, ◌-◌, ◌*◌, ◌≤◌, ◌<◌, length}
use Rattle.std.proofs.Math.Path.{refl}
use Rattle.std.proofs.Common.{sym, ◌∙◌, inl, inr, mul-add, add-mul, mul-le-mul_left, arith, ne_eqb}
use mathlib.Core.List.{List, [], ◌∷◌, map}
use Rattle.std.proofs.Math.Logic.{⊎_elim}
use Rattle.std.proofs.Math.Nat.{le_refl}
use Rattle.std.proofs.Math.ListN.{get_or}
use Rattle.definitions.specs.Limits.{max_size}
use Rattle.definitions.specs.Metres.{IsNumber}
use Rattle.definitions.specs.Lists.{mem, total, up_from, Every}
use Rattle.definitions.specs.Network.{Piece, entry, size_of, no_piece, Open, ArcIn, Arc, Walk}
use Rattle.definitions.specs.Blocks.{Window, windows_of, rows_of, logarithm, Block, block_of, blocks_of, blocks_from, blocks, no_block, passes, weight}
use Rattle.definitions.proofs.Laws.MongeLaws.{is_monge_is}
use Rattle.definitions.proofs.Laws.Members.{every_imp}
use Rattle.basics.specs.ListLaws.{every_at, every_append, every_map, Any, any_at, at_any, any_left, any_right, any_cases, any_map, any_back, total_le, total_append, Different}
use Rattle.heap_laws.proofs.Activate.{closed_none, closed_few}
use Rattle.splits.specs.Windows.{Inside, Spans}
use Rattle.splits.proofs.Windows.{windows_inside, pair_once, spanned, rows_few, cols_few}
use Rattle.basics.specs.ListPlaces.{different_at}
use Rattle.basics.specs.PiecePlaces.{block_rows, block_cols, row_vertex, col_vertex, entry_at}
use Rattle.labelling_laws.specs.Walks.{ArcOf, BlockArc}
use Rattle.labelling_laws.proofs.Walks.{walk_map}
use Rattle.labelling_laws.specs.OneBlock.{Fit, inserted_most, FewClosed}
use Rattle.labelling_laws.proofs.OneBlock.{inserted_most_lem}
use Rattle.labelling_laws.specs.Acceptance.{Suits}
use Rattle.labelling_laws.specs.Arcs.{PieceArc}

-- ---- the blocks fit

stretch_differs : (vs : List ℕ) → Different vs → (s n : ℕ) → s + n ≤ length vs → Different (map (λ i. get_or vs i 0) (up_from s n))
unfolding up_from mem
stretch_differs vs d s zero l = tt
stretch_differs vs d s (suc n) l = (without (suc s) n (omega arith) (omega arith), stretch_differs vs d (suc s) n (omega arith))
  where
    without : (t k : ℕ) → s < t → t + k ≤ length vs → mem (get_or vs s 0) (map (λ i. get_or vs i 0) (up_from t k)) ≡ false
    without t zero h m = refl
    without t (suc k) h m = simp (ne_eqb (get_or vs s 0) (get_or vs t 0) (λ q. let e : s ≡ t = different_at vs d s t (omega arith) (omega arith) q in omega arith)) (without (suc t) k (omega arith) (omega arith))

module _ (n : ℕ) where
  fit_one : (d : ℕ) (q : Piece) → Suits n q → (w : Window) → Inside (size_of q) w → passes (block_of d q w) ≡ true → Fit n (block_of d q w)
  unfolding passes size_of
  fit_one d q su w i ok = record {
    rows_differ = unfold block_of rows_of in stretch_differs q.vertices su.vertices_differ w.row0 w.rows i.rows_in;
    cols_in_lem = λ c l.
        let lc : c < w.cols = rw block_cols at l in
        rw (col_vertex d q w c lc) (every_at (λ v. (1 ≤ v) × (v ≤ n)) q.vertices su.vertices_in (w.col0 + (w.cols - 1 - c)) 0 (omega (arith, i.cols_in_lem)));
    short = λ r c lr lc. rw (entry_at d q w r c (rw block_rows at lr) (rw block_cols at lc)) (su.short (w.row0 + r) (w.col0 + (w.cols - 1 - c)));
    monge = is_monge_is _ _ _ ok;
  }

  -- the check does not look at the piece's number
  fit_all : (d : ℕ) (q : Piece) → Suits n q → (ws : List Window) → Every (Inside (size_of q)) ws → Every (λ b. passes b ≡ true) (map (block_of 0 q) ws) → Every (Fit n) (map (block_of d q) ws)
  fit_all d q su [] i p = tt
  fit_all d q su (w ∷ ws) i p = (fit_one d q su w i.0 (unfold passes block_of in p.0), fit_all d q su ws i.1 p.1)

  fit_from : (d : ℕ) (qs : List Piece) → Every (Suits n) qs → Every (Fit n) (blocks_from d qs)
  unfolding blocks_from blocks_of
  fit_from d [] h = tt
  fit_from d (q ∷ qs) h =
      every_append (Fit n) (blocks_of d q) (blocks_from (suc d) qs) (fit_all d q h.0 (windows_of (size_of q)) (windows_inside (size_of q) h.0.size_high) h.0.monge) (fit_from (suc d) qs h.1)

  pub blocks_fit : (qs : List Piece) → Every (Suits n) qs → Every (Fit n) (blocks qs)
  unfolding blocks
  blocks_fit qs h = fit_from 1 qs h

-- ---- the arcs are the same

arc_to_block : (d : ℕ) (q : Piece) (u v l : ℕ) → (a : ArcIn q u v l) → (w : Window) → Spans a.here a.there w → ArcOf (block_of d q w) u v l
arc_to_block d q u v l a w s =
    let i : ℕ = a.here - w.row0 in
    let k : ℕ = w.cols - suc (a.there - w.col0) in
    let at_row : w.row0 + (a.here - w.row0) ≡ a.here = omega (arith, s.row_from) in
    let at-col : w.col0 + (w.cols - 1 - (w.cols - suc (a.there - w.col0))) ≡ a.there = omega (arith, s.col_from, s.col_to) in
    let row_in_lem : a.here - w.row0 < w.rows = omega (arith, s.row_from, s.row_to) in
    let col_in_lem : w.cols - suc (a.there - w.col0) < w.cols = omega (arith, s.col_from, s.col_to) in
    record {
      row = i;
      col = k;
      row_in_lem = rw block_rows row_in_lem;
      col_in_lem = rw block_cols col_in_lem;
      tail = row_vertex d q w i row_in_lem ∙ rw at_row a.tail;
      head = col_vertex d q w k col_in_lem ∙ rw at-col a.head;
      length_is = entry_at d q w i k row_in_lem col_in_lem ∙ rw (at_row, at-col) a.length_is;
      some_path = a.some_path;
    }

arc_to_piece : (d : ℕ) (q : Piece) (u v l : ℕ) (w : Window) → Inside (size_of q) w → ArcOf (block_of d q w) u v l → ArcIn q u v l
arc_to_piece d q u v l w i a =
    let row_in_lem : a.row < w.rows = rw block_rows at a.row_in_lem in
    let col_in_lem : a.col < w.cols = rw block_cols at a.col_in_lem in
    record {
      here = w.row0 + a.row;
      there = w.col0 + (w.cols - 1 - a.col);
      here_in = omega (arith, i.rows_in);
      there_in = omega (arith, i.cols_in_lem);
      differ = ⊎_elim (λ (p : w.row0 + w.rows ≤ w.col0). λ q. omega arith) (λ (p : w.col0 + w.cols ≤ w.row0). λ q. omega arith) i.apart;
      tail = sym (row_vertex d q w a.row row_in_lem) ∙ a.tail;
      head = sym (col_vertex d q w a.col col_in_lem) ∙ a.head;
      length_is = sym (entry_at d q w a.row a.col row_in_lem col_in_lem) ∙ a.length_is;
      some_path = a.some_path;
    }

module _ (n u v l : ℕ) where
  in_blocks : (d : ℕ) (qs : List Piece) → Every (Suits n) qs → Any (λ q. ArcIn q u v l) qs → Any (λ b. ArcOf b u v l) (blocks_from d qs)
  unfolding blocks_from blocks_of
  in_blocks d [] h x = absurd x
  in_blocks d (q ∷ qs) h (inl a) = any_left (λ b. ArcOf b u v l) (blocks_of d q) (blocks_from (suc d) qs)
      (any_map (Spans a.here a.there) (λ b. ArcOf b u v l) (block_of d q) (windows_of (size_of q)) (arc_to_block d q u v l a)
      (spanned a.here a.there (windows_of (size_of q)) (omega (arith, pair_once (size_of q) a.here a.there h.0.size_high a.here_in a.there_in a.differ))))
  in_blocks d (q ∷ qs) h (inr x) = any_right (λ b. ArcOf b u v l) (blocks_of d q) (blocks_from (suc d) qs) (in_blocks (suc d) qs h.1 x)

  -- an arc of a block of piece k
  module _ (k : ℕ) where
    abbrev OfPiece : Block → Type 0
    OfPiece b = (b.piece ≡ k) × ArcOf b u v l

    in_pieces : (d : ℕ) (qs : List Piece) → Every (Suits n) qs → Any OfPiece (blocks_from d qs) → PieceArc d qs k u v l
    unfolding blocks_from blocks_of block_of
    in_pieces d [] h x = absurd x
    in_pieces d (q ∷ qs) h x = ⊎_elim
        (λ (y : Any OfPiece (blocks_of d q)). any_back (Inside (size_of q)) OfPiece (PieceArc d (q ∷ qs) k u v l) (block_of d q) (windows_of (size_of q)) here (windows_inside (size_of q) h.0.size_high) y)
        (λ (y : Any OfPiece (blocks_from (suc d) qs)). there (in_pieces (suc d) qs h.1 y))
        (any_cases OfPiece (blocks_of d q) (blocks_from (suc d) qs) x)
      where
        here : (w : Window) → Inside (size_of q) w → OfPiece (block_of d q w) → PieceArc d (q ∷ qs) k u v l
        here w i a =
            let z : k - d ≡ 0 = omega (arith, a.0) in
            record { low = omega (arith, a.0); high = omega (arith, a.0); arc = rw z (arc_to_piece d q u v l w i a.1) }

        there : PieceArc (suc d) qs k u v l → PieceArc d (q ∷ qs) k u v l
        there a =
            let z : k - d ≡ suc (k - suc d) = omega (arith, a.low) in
            record { low = omega (arith, a.low); high = omega (arith, a.high); arc = rw z a.arc }

  to_blocks : (qs : List Piece) → Every (Suits n) qs → Arc qs u v l → BlockArc (blocks qs) u v l
  unfolding blocks
  to_blocks qs h a =
      let s = at_any (λ b. ArcOf b u v l) (blocks qs) no_block (in_blocks 1 qs h (any_at (λ q. ArcIn q u v l) qs a.number no_piece a.number_in a.arc)) in
      record { number = s.number; number_in = s.number_in; arc = s.here }

  -- an arc of a block is one of the block's piece
  pub of_piece : (qs : List Piece) → Every (Suits n) qs → (a : BlockArc (blocks qs) u v l) → PieceArc 1 qs (get_or (blocks qs) a.number no_block).piece u v l
  unfolding blocks
  of_piece qs h a = let b : Block = get_or (blocks qs) a.number no_block in in_pieces b.piece 1 qs h (any_at (OfPiece b.piece) (blocks qs) a.number no_block a.number_in (refl, a.arc))

  to_pieces : (qs : List Piece) → Every (Suits n) qs → BlockArc (blocks qs) u v l → Arc qs u v l
  to_pieces qs h a = let s = of_piece qs h a in record { number = (get_or (blocks qs) a.number no_block).piece - 1; number_in = omega (arith, s.low, s.high); arc = s.arc }

pub walk_to_blocks : (n : ℕ) (qs : List Piece) → Every (Suits n) qs → {s v l : ℕ} → Walk (Arc qs) s v l → Walk (BlockArc (blocks qs)) s v l
walk_to_blocks n qs h p = walk_map (λ u v l a. to_blocks n u v l qs h a) p

pub walk_to_pieces : (n : ℕ) (qs : List Piece) → Every (Suits n) qs → {s v l : ℕ} → Walk (BlockArc (blocks qs)) s v l → Walk (Arc qs) s v l
walk_to_pieces n qs h p = walk_map (λ u v l a. to_pieces n u v l qs h a) p

-- ---- how many rows and columns

-- f counts the rows, or the columns, of a block, and g those of its window
module _ (f : Block → ℕ) (g : Window → ℕ) (same : (d : ℕ) (q : Piece) (w : Window) → f (block_of d q w) ≡ g w) (few : (m : ℕ) → m ≤ max_size → total (map g (windows_of m)) ≤ m * logarithm m) where
  of_windows : (d : ℕ) (q : Piece) (ws : List Window) → total (map f (map (block_of d q) ws)) ≡ total (map g ws)
  unfolding total
  of_windows d q [] = refl
  of_windows d q (w ∷ ws) = omega (arith, of_windows d q ws, same d q w)

  of_from : (n d : ℕ) (qs : List Piece) → Every (Suits n) qs → total (map f (blocks_from d qs)) ≤ weight qs
  unfolding blocks_from blocks_of weight total
  of_from n d [] h = le_refl 0
  of_from n d (q ∷ qs) h =
      omega (arith, total_append f (blocks_of d q) (blocks_from (suc d) qs), of_windows d q (windows_of (size_of q)), few (size_of q) h.0.size_high, of_from n (suc d) qs h.1)

  of_all : (n : ℕ) (qs : List Piece) → Every (Suits n) qs → total (map f (blocks qs)) ≤ weight qs
  unfolding blocks
  of_all n qs h = of_from n 1 qs h

pub all_rows : (n : ℕ) (qs : List Piece) → Every (Suits n) qs → total (map (λ b. length b.rows) (blocks qs)) ≤ weight qs
all_rows = of_all (λ b. length b.rows) (λ w. w.rows) block_rows rows_few

pub all_cols : (n : ℕ) (qs : List Piece) → Every (Suits n) qs → total (map (λ b. length b.cols) (blocks qs)) ≤ weight qs
all_cols = of_all (λ b. length b.cols) (λ w. w.cols) block_cols cols_few

rows_cols : (k : ℕ) (bs : List Block) → total (map (λ b. k * length b.rows + 2 * length b.cols) bs) ≡ k * total (map (λ b. length b.rows) bs) + 2 * total (map (λ b. length b.cols) bs)
unfolding total
rows_cols k [] = omega arith
rows_cols k (b ∷ bs) = omega (arith, rows_cols k bs, mul-add k (length b.rows) (total (map (λ b. length b.rows) bs)))

-- ---- how many intervals

-- a property of the blocks of each piece
each_block : (n : ℕ) (P : Block → Type 0) (d : ℕ) (qs : List Piece) → Every (Suits n) qs → Every (λ q. (d : ℕ) (w : Window) → Inside (size_of q) w → P (block_of d q w)) qs → Every P (blocks_from d qs)
unfolding blocks_from blocks_of
each_block n P d [] su h = tt
each_block n P d (q ∷ qs) su h =
    every_append P (blocks_of d q) (blocks_from (suc d) qs) (every_map (Inside (size_of q)) P (block_of d q) (windows_of (size_of q)) (h.0 d) (windows_inside (size_of q) su.0.size_high))
    (each_block n P (suc d) qs su.1 h.1)

-- no block has more closed columns than a piece has vertices
pub few_closed : (n : ℕ) (qs : List Piece) → Every (Suits n) qs → Every (FewClosed max_size) (blocks qs)
unfolding blocks
few_closed n qs su = each_block n (FewClosed max_size) 1 qs su (every_imp (Suits n) _ qs few su)
  where
    few : (q : Piece) → Suits n q → (d : ℕ) (w : Window) → Inside (size_of q) w → FewClosed max_size (block_of d q w)
    few q s d w i _ = let b : Block = block_of d q w in omega (arith, closed_few b.lengths (length b.rows) (length b.cols), block_cols d q w, i.cols_in_lem, s.size_high)

-- and none where every entry is a number
pub open_none : (n : ℕ) (qs : List Piece) → Every (Suits n) qs → Open qs → Every (FewClosed 0) (blocks qs)
unfolding blocks
open_none n qs su o = each_block n (FewClosed 0) 1 qs su (every_imp _ _ qs none o)
  where
    none : (q : Piece) → ((i j : ℕ) → i < size_of q → j < size_of q → IsNumber (entry q i j)) → (d : ℕ) (w : Window) → Inside (size_of q) w → FewClosed 0 (block_of d q w)
    none q f d w i some =
        let b : Block = block_of d q w in
        rw (closed_none b.lengths (length b.rows) (length b.cols) some
        (λ r c lr lc. rw (entry_at d q w r c (rw block_rows at lr) (rw block_cols at lc)) (f (w.row0 + r) (w.col0 + (w.cols - 1 - c)) (omega (arith, i.rows_in, block_rows d q w)) (omega (arith, i.cols_in_lem, block_cols d q w)))))
        (le_refl 0)

-- three for each row and two for each column, and one more for each row and each closed column
pub all_inserted : (n k : ℕ) (qs : List Piece) → Every (Suits n) qs → Every (FewClosed k) (blocks qs) → total (map inserted_most (blocks qs)) ≤ (5 + k) * weight qs
all_inserted n k qs su few =
    let each = total_le inserted_most (λ b. (3 + k) * length b.rows + 2 * length b.cols) (blocks qs) (every_imp (FewClosed k) _ (blocks qs) (inserted_most_lem k) few) in
    omega (arith, each, rows_cols (3 + k) (blocks qs), mul-le-mul_left (3 + k) (all_rows n qs su), all_cols n qs su, add-mul (3 + k) 2 (weight qs))
