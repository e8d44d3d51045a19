-- What is known of the pieces of a network that no cause turns away.
--   suits size_passes    what the labelling asks of a piece
use Rattle.std.specs.Prelude.{◌≡◌, refl, true, ◌&&◌, List, [], ◌∷◌, ℕ, ◌≤◌, get_or}
use Rattle.definitions.specs.Limits.{max_size}
use Rattle.definitions.specs.Metres.{is_length}
use Rattle.definitions.specs.Lists.{every, different, within, Every}
use Rattle.definitions.specs.Network.{Piece, entry, size_of}
use Rattle.definitions.specs.Blocks.{blocks_of, passes}
use Rattle.definitions.specs.Judgement.{judge_size, judge_vertices, judge_rows, judge_blocks, judge_piece}
use Rattle.definitions.proofs.Laws.CauseLaws.{no_cause, test_holds, within_is, vertices_in, length_short, Short, rows_short}
use Rattle.definitions.proofs.Laws.Members.{every_is}
use Rattle.logic.specs.Tests.{and_right}
use Rattle.basics.specs.ListLaws.{different_is}
use Rattle.labelling_laws.proofs.VertexPlaces.{at_place}
use Rattle.labelling_laws.specs.Acceptance.{Suits}

pub size_passes : (n m : ℕ) (q : Piece) → judge_piece n m q ≡ 0 → m ≤ max_size
unfolding judge_piece judge_size
size_passes n m q h = (within_is max_size m (test_holds _ 3 (no_cause (judge_size m ∷ judge_vertices n q.vertices ∷ judge_rows 0 q.rows ∷ judge_blocks q ∷ []) h).0)).1

piece_suits : (n : ℕ) (q : Piece) → judge_piece n (size_of q) q ≡ 0 → Suits n q
unfolding judge_piece judge_vertices judge_blocks entry is_length
piece_suits n q h =
    let p = no_cause (judge_size (size_of q) ∷ judge_vertices n q.vertices ∷ judge_rows 0 q.rows ∷ judge_blocks q ∷ []) h in
    let v : (every (within n) q.vertices && different q.vertices) ≡ true = test_holds _ 4 p.1.0 in
    record {
      size_high = size_passes n (size_of q) q h;
      vertices_in = vertices_in n q.vertices p.1.0;
      vertices_differ = different_is q.vertices (and_right (every (within n) q.vertices) (different q.vertices) v);
      short = λ i j. length_short (entry q i j) (at_place (λ l. is_length l ≡ true) 0 (get_or q.rows i []) refl (at_place Short [] q.rows tt (rows_short 0 q.rows p.1.1.0) i) j);
      monge = every_is passes (λ b. passes b ≡ true) (λ b t. t) (blocks_of 0 q) (test_holds _ 6 p.1.1.1.0);
    }

pub suits : (n : ℕ) (pieces : List Piece) → Every (λ q. judge_piece n (size_of q) q ≡ 0) pieces → Every (Suits n) pieces
suits n [] h = tt
suits n (q ∷ qs) h = (piece_suits n q h.0, suits n qs h.1)
