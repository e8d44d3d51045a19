-- A network that no cause turns away, and what is known of its pieces. The laws are in proofs/.
--   Accepted    n, the pieces and the source pass the judgement
--   Suits       what the labelling asks of a piece
use Rattle.std.specs.Prelude.{◌≡◌, true, List, ℕ, ◌≤◌, length}
use Rattle.definitions.specs.Limits.{max_size, max_length}
use Rattle.definitions.specs.Metres.{IsNumber}
use Rattle.definitions.specs.Lists.{Every}
use Rattle.definitions.specs.Network.{Piece, entry, size_of}
use Rattle.definitions.specs.Blocks.{blocks_of, passes}
use Rattle.definitions.specs.Judgement.{judge_bounds, judge_source, judge_piece}
use Rattle.basics.specs.ListLaws.{Different}

-- a network of n vertices with these pieces is accepted, and a source in it
pub record Accepted (n : ℕ) (pieces : List Piece) (source : ℕ) : Type 0 where
  pub bounds : judge_bounds n (length pieces) ≡ 0
  pub pieces_pass : Every (λ q. judge_piece n (size_of q) q ≡ 0) pieces
  pub source_passes : judge_source n source ≡ 0

-- ---- a piece

pub record Suits (n : ℕ) (q : Piece) : Type 0 where
  pub size_high : size_of q ≤ max_size
  pub vertices_in : Every (λ v. (1 ≤ v) × (v ≤ n)) q.vertices
  pub vertices_differ : Different q.vertices
  pub short : (i j : ℕ) → IsNumber (entry q i j) → entry q i j ≤ max_length
  pub monge : Every (λ b. passes b ≡ true) (blocks_of 0 q)
