-- The arcs of walks over blocks, and of routes. The law of walks is in proofs/.
--   ArcOf BlockArc        an arc of a block: from the vertex of a row to that of a column
--   IsBlockArc Arrives    an arc of a route: it is one of a block of its piece; it starts at a settled vertex
use Rattle.std.specs.Prelude.{◌≡◌, List, ℕ, ◌<◌, get_or, length}
use Rattle.std.proofs.Math.Option.{some}
use Rattle.definitions.specs.Limits.{sum}
use Rattle.definitions.specs.Metres.{IsNumber}
use Rattle.definitions.specs.Network.{RouteArc}
use Rattle.definitions.specs.Blocks.{Block, no_block}
use Rattle.definitions.specs.Labelling.{Settled, label_of}

pub record ArcOf (b : Block) (u v l : ℕ) : Type 0 where
  pub row : ℕ
  pub col : ℕ
  pub row_in_lem : row < length b.rows
  pub col_in_lem : col < length b.cols
  pub tail : get_or b.rows row 0 ≡ u
  pub head : get_or b.cols col 0 ≡ v
  pub length_is : b.lengths row col ≡ l
  pub some_path : IsNumber l

-- an arc of one of the blocks
pub record BlockArc (bs : List Block) (u v l : ℕ) : Type 0 where
  pub number : ℕ
  pub number_in : number < length bs
  pub arc : ArcOf (get_or bs number no_block) u v l

-- an arc of a route that is an arc of a block, with the number of the block's piece
pub record IsBlockArc (bs : List Block) (a : RouteArc) : Type 0 where
  pub arc : BlockArc bs a.from a.to a.length
  pub piece_is : (get_or bs arc.number no_block).piece ≡ a.piece

-- one from a settled vertex to v, where the sum is l
pub record Arrives (bs : List Block) (xs : List Settled) (v l : ℕ) (a : RouteArc) : Type 0 where
  pub before : ℕ
  pub from_is : label_of a.from xs ≡ some before
  pub to_is : a.to ≡ v
  pub sum_is : l ≡ sum before a.length
  pub is_arc : IsBlockArc bs a
