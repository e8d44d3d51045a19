-- A piece's table in lent places, and the blocks of the piece.
--   row_in_lem length_rows entry_in    a row of the piece, how many it has, an entry
--   block_entry                    an entry of a block
--   block_passes                   a block of the piece passes exactly if that of the table does
use Rattle.std.specs.Prelude.{◌≡◌, List, [], ℕ, ◌+◌, ◌-◌, ◌*◌, ◌≤◌, ◌<◌, get_or, length, take, drop}
use Rattle.std.proofs.Common.{◌∙◌, arith, get_or-take, get_or-drop}
use borrow.Author.Tests.{eq-eqb, le-leb}
use Rattle.std.proofs.lemmas.List.{length-map}
use Rattle.definitions.specs.Limits.{max_size, row_places, table_places}
use Rattle.definitions.specs.Lists.{up_from}
use Rattle.definitions.specs.Network.{Piece, entry}
use Rattle.definitions.specs.Blocks.{Window, block_of, passes}
use Rattle.definitions.specs.Entries.{has_places, rectangle_of}
use Rattle.monge.specs.Matrix.{at, rows_in, block_in, lies_in, block_monge_in}
use Rattle.monge.specs.Rectangles.{is_monge_same}
use Rattle.basics.specs.Sequences.{length_up_from, get_or_each}
use Rattle.basics.specs.PiecePlaces.{block_rows, block_cols, entry_at}

pub length_rows : (m : ℕ) (lengths : List ℕ) → length (rows_in m lengths) ≡ m
unfolding rows_in
length_rows m lengths = length-map (up_from 0 m) (λ i. take m (drop (row_places * i) lengths)) ∙ length_up_from 0 m

pub row_in_lem : (m : ℕ) (lengths : List ℕ) (i : ℕ) → i < m → get_or (rows_in m lengths) i [] ≡ take m (drop (row_places * i) lengths)
unfolding rows_in
row_in_lem m lengths i l = get_or_each (λ i. take m (drop (row_places * i) lengths)) m i [] l

pub entry_in : (m : ℕ) (lengths : List ℕ) (i j : ℕ) → i < m → j < m → at (rows_in m lengths) i j ≡ get_or lengths (row_places * i + j) 0
entry_in m lengths i j l r = rw (row_in_lem m lengths i l, get_or-take m (drop (row_places * i) lengths) j 0 r) (get_or-drop (row_places * i) lengths j 0)

-- a piece of size m whose table stands in these places, and a window that lies in it
module _ (m : ℕ) (lengths : List ℕ) (q : Piece) (same : q.rows ≡ rows_in m lengths) (small : m ≤ max_size)
    (d : ℕ) (w : Window) (rows_in : w.row0 + w.rows ≤ m) (cols_in_lem : w.col0 + w.cols ≤ m) where
  pub block_entry : (i k : ℕ) → i < w.rows → k < w.cols → (block_of d q w).lengths i k ≡ block_in lengths w.row0 w.col0 w.cols i k
  unfolding entry block_in rectangle_of
  block_entry i k l r = rw (entry_at d q w i k l r, same) (entry_in m lengths (w.row0 + i) (w.col0 + (w.cols - 1 - k)) (omega arith) (omega arith))

  pub block_passes : length lengths ≡ table_places → passes (block_of d q w) ≡ block_monge_in lengths w.row0 w.col0 w.rows w.cols
  unfolding passes block_monge_in lies_in has_places
  block_passes full =
      rw (block_rows d q w, block_cols d q w, eq-eqb (length lengths) table_places full, le-leb (w.row0 + w.rows) max_size (omega arith), le-leb (w.col0 + w.cols) row_places (omega arith))
      (is_monge_same (block_of d q w).lengths (block_in lengths w.row0 w.col0 w.cols) w.rows w.cols block_entry)
