-- An arc of a block, as one of the block's piece. The laws are in proofs/.
--   PieceArc    an arc of the piece of a number
use Rattle.std.specs.Prelude.{ℕ, ◌+◌, ◌-◌, ◌≤◌, ◌<◌, length}
use mathlib.Core.List.{List}
use Rattle.std.proofs.Math.ListN.{get_or}
use Rattle.definitions.specs.Network.{Piece, no_piece, ArcIn}

-- an arc of the piece of number k, where the first piece has the number d
pub record PieceArc (d : ℕ) (qs : List Piece) (k u v l : ℕ) : Type 0 where
  pub low : d ≤ k
  pub high : k < d + length qs
  pub arc : ArcIn (get_or qs (k - d) no_piece) u v l
