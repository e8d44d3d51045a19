-- Document 01, "Splitting a district": the halving, the blocks of a network, the check of a block. The law that this list names stands in the file `Blocks` of
-- proofs/.
--   Split splits splits_of all_splits    the halving, in the order of 01
--   Window windows windows_of           the blocks of a size, by places
--   Block block_of blocks_from blocks    the blocks of a network, by vertices
--   passes                             the check, with the law that it is the inequality of the file Monge
--   logarithm weight                   ⌈log₂ m⌉, and the sum over pieces of m·⌈log₂ m⌉: they restate the bound of demand 3
use Rattle.std.specs.Prelude.{Bool, true, false, List, [], ◌∷◌, ◌++◌, map, ℕ, zero, suc, ◌+◌, ◌-◌, ◌*◌, ◌/◌, ltb, get_or, length}
use Rattle.definitions.specs.Limits.{max_size}
use Rattle.definitions.specs.Lists.{total, up_from, down_to}
use Rattle.definitions.specs.Network.{Rectangle, Piece, entry, size_of}
use Rattle.definitions.specs.Monge.{is_monge}

-- A stretch of places, from `first` up to `end`, cut at `middle` into its first half, before it, and its second, from it on.
pub record Split : Type 0 where
  pub first : ℕ
  pub middle : ℕ
  pub end : ℕ

-- The splits of the k places from s on: two places or more are cut after half of them, rounded down; then the first half is split in the
-- same way, then the second. `fuel` bounds the depth, and k is always enough.
unfoldable pub splits : ℕ → ℕ → ℕ → List Split
splits zero s k = []
splits (suc fuel) s k = elim (ltb k 2) [
  | true ↦ []
  | false ↦ record { first = s; middle = s + k / 2; end = s + k } ∷ (splits fuel s (k / 2) ++ splits fuel (s + k / 2) (k - k / 2))
]

-- the splits of a piece of m vertices
unfoldable pub splits_of : ℕ → List Split
splits_of m = splits m 0 m

-- those of the sizes 1 to m, in order
unfoldable pub splits_up_to : ℕ → List Split
splits_up_to zero = []
splits_up_to (suc m) = splits_up_to m ++ splits_of (suc m)

-- the splits of all sizes, 276 of them
unfoldable pub all_splits : List Split
all_splits = splits_up_to max_size

-- A block by places: its rows are the `rows` places from `row0` on, its columns the `cols` places from `col0` on.
pub record Window : Type 0 where
  pub row0 : ℕ
  pub rows : ℕ
  pub col0 : ℕ
  pub cols : ℕ

-- each split gives the block from its first half to its second, then the block back
unfoldable pub windows : List Split → List Window
windows [] = []
windows (c ∷ cs) =
    record { row0 = c.first; rows = c.middle - c.first; col0 = c.middle; cols = c.end - c.middle }
    ∷ record { row0 = c.middle; rows = c.end - c.middle; col0 = c.first; cols = c.middle - c.first }
    ∷ windows cs

-- the blocks of a piece of m vertices, in their order
unfoldable pub windows_of : ℕ → List Window
windows_of m = windows (splits_of m)

-- the places of row 0, 1, .., clockwise, and of column 0, 1, .., anticlockwise
unfoldable pub rows_of : Window → List ℕ
rows_of w = up_from w.row0 w.rows

unfoldable pub columns_of : Window → List ℕ
columns_of w = down_to w.col0 w.cols

-- the number of its piece, from 1, the vertices of its rows and of its columns, and its entries
pub record Block : Type 0 where
  pub piece : ℕ
  pub rows : List ℕ
  pub cols : List ℕ
  pub lengths : Rectangle

-- the block of piece d at a window: entry (i, k) is that from the place of row i to the place of column k
unfoldable pub block_of : ℕ → Piece → Window → Block
block_of d q w = record {
  piece = d;
  rows = map (λ i. get_or q.vertices i 0) (rows_of w);
  cols = map (λ j. get_or q.vertices j 0) (columns_of w);
  lengths = λ i k. entry q (get_or (rows_of w) i 0) (get_or (columns_of w) k 0);
}

-- the blocks of piece d, in their order
unfoldable pub blocks_of : ℕ → Piece → List Block
blocks_of d q = map (block_of d q) (windows_of (size_of q))

-- those of pieces of which the first is piece d
unfoldable pub blocks_from : ℕ → List Piece → List Block
blocks_from d [] = []
blocks_from d (q ∷ qs) = blocks_of d q ++ blocks_from (suc d) qs

-- the blocks of all pieces, in the order of their numbers; 01 counts both from 1
unfoldable pub blocks : List Piece → List Block
blocks qs = blocks_from 1 qs

-- what stands past the last block
abbrev pub no_block : Block
no_block = record { piece = 0; rows = []; cols = []; lengths = λ i k. 0 }

-- a block passes its check
unfoldable pub passes : Block → Bool
passes b = is_monge b.lengths (length b.rows) (length b.cols)

-- ---- the bound of demand 3, restated

-- how often m can be halved, rounded up, until 1 is left; `fuel` bounds the depth, and m is enough
unfoldable pub logarithm_from : ℕ → ℕ → ℕ
logarithm_from zero m = 0
logarithm_from (suc fuel) m = elim (ltb m 2) [ true ↦ 0 | false ↦ suc (logarithm_from fuel ((m + 1) / 2)) ]

-- ⌈log₂ m⌉ of the bound in demand 3
unfoldable pub logarithm : ℕ → ℕ
logarithm m = logarithm_from m m

-- the sum over the pieces of m·⌈log₂ m⌉, which the bound in demand 3 takes five times
unfoldable pub weight : List Piece → ℕ
weight qs = total (map (λ q. size_of q * logarithm (size_of q)) qs)
