-- A network in lent buffers that the labelling, or a route, accepts is an accepted network.
--   lent_accepted             the labelling's
--   lent_target lent_route    a route's, with its target; what the route leaves
use Rattle.std.specs.Prelude.{◌≡◌, refl, cond, List, [], ◌∷◌, map, length}
use Prim.Native.Nat.{ℕ, zero, suc, ◌+◌, ◌*◌, ◌≤◌}
use Rattle.std.proofs.Common.{arith}
use Rattle.std.proofs.Math.ListN.{get_or}
use Rattle.std.proofs.lemmas.List.{length-map}
use Rattle.definitions.specs.Limits.{label_places, route_places, row_places}
use Rattle.definitions.specs.Lists.{up_from, Every}
use Rattle.definitions.specs.Network.{Piece, size_of}
use Rattle.definitions.specs.Blocks.{blocks}
use Rattle.definitions.specs.Labelling.{labelling, route_to}
use Rattle.definitions.specs.Judgement.{judge_bounds, judge_source, judge_target, judge_piece, piece_at, pieces_of, judge_from, judge_network}
use Rattle.definitions.specs.Entries.{has_places, judge_buffers, judge_labelling, judge_route, route_answer, route_network}
use Rattle.definitions.specs.PlainPromises.{PlainRoute}
use Rattle.definitions.proofs.Laws.CauseLaws.{no_cause, bounds_in, target_in_lem}
use Rattle.logic.specs.Tests.{Equal, equal, differ, equality}
use Rattle.basics.specs.Buffers.{buffers_are}
use Rattle.basics.specs.Sequences.{length_up_from}
use Rattle.basics.specs.PiecePlaces.{piece_size}
use Rattle.labelling_laws.specs.Acceptance.{Accepted}
use Rattle.labelling_laws.proofs.Acceptance.{size_passes}
use Rattle.labelling_laws.proofs.PieceBlocks.{routed}

module _ (n : ℕ) (sizes vertices lengths : List ℕ) where
  from_pass : (d k : ℕ) → row_places * (d + k) ≤ length vertices → judge_from n sizes vertices lengths d k ≡ 0
      → Every (λ q. judge_piece n (size_of q) q ≡ 0) (map (piece_at sizes vertices lengths) (up_from d k))
  unfolding judge_from up_from
  from_pass d zero h j = tt
  from_pass d (suc k) h j =
      let q : Piece = piece_at sizes vertices lengths d in
      let p = no_cause (judge_piece n (get_or sizes d 0) q ∷ judge_from n sizes vertices lengths (suc d) k ∷ []) j in
      let same : size_of q ≡ get_or sizes d 0 = piece_size sizes vertices lengths d (size_passes n (get_or sizes d 0) q p.0) (omega arith) in
      (rw same p.0, from_pass (suc d) k (omega arith) p.1.0)

-- buffers of the right sizes, a network and a source that pass
accepted : (n p : ℕ) (sizes vertices lengths : List ℕ) (source : ℕ) → judge_buffers (length sizes) (length vertices) (length lengths) ≡ 0
    → judge_network n p sizes vertices lengths ≡ 0 → judge_source n source ≡ 0 → Accepted n (pieces_of p sizes vertices lengths) source
unfolding judge_network pieces_of
accepted n p sizes vertices lengths source buffers network passes =
    let parts = no_cause (judge_bounds n p ∷ judge_from n sizes vertices lengths 0 p ∷ []) network in
    let places = (buffers_are (length sizes) (length vertices) (length lengths) buffers).1 in
    let count : length (map (piece_at sizes vertices lengths) (up_from 0 p)) ≡ p = simp (length-map, length_up_from) in
    record {
      bounds = rw count parts.0;
      pieces_pass = from_pass n sizes vertices lengths 0 p (omega (arith, places, (bounds_in n p parts.0).1)) parts.1.0;
      source_passes = passes;
    }

pub lent_accepted : (n p : ℕ) (sizes vertices lengths : List ℕ) (source : ℕ) (buffer : List ℕ) → judge_labelling n p sizes vertices lengths source buffer ≡ 0
    → Accepted n (pieces_of p sizes vertices lengths) source
unfolding judge_labelling
lent_accepted n p sizes vertices lengths source buffer h =
    let causes = no_cause (cond (has_places label_places buffer) 0 1 ∷ judge_buffers (length sizes) (length vertices) (length lengths) ∷ judge_network n p sizes vertices lengths ∷ judge_source n source ∷ []) h in
    accepted n p sizes vertices lengths source causes.1.0 causes.1.1.0 causes.1.1.1.0

-- ---- a route

module _ (n p : ℕ) (sizes vertices lengths : List ℕ) (source target : ℕ) (buffer : List ℕ) where
  -- the same, and its target is a vertex
  pub lent_target : judge_route n p sizes vertices lengths source target buffer ≡ 0 → Accepted n (pieces_of p sizes vertices lengths) source × (1 ≤ target) × (target ≤ n)
  unfolding judge_route
  lent_target h =
      let causes = no_cause (cond (has_places route_places buffer) 0 1 ∷ judge_buffers (length sizes) (length vertices) (length lengths) ∷ judge_network n p sizes vertices lengths
      ∷ judge_source n source ∷ judge_target n target ∷ []) h in
      let t = target_in_lem n target causes.1.1.1.1.0 in
      (accepted n p sizes vertices lengths source causes.1.0 causes.1.1.0 causes.1.1.1.0, t.0, t.1)

  pub lent_route : (route_network n p sizes vertices lengths source target buffer).answer.number ≡ 0
      → PlainRoute p sizes vertices lengths source target (route_network n p sizes vertices lengths source target buffer).answer (route_network n p sizes vertices lengths source target buffer).arcs
  unfolding route_network route_answer
  lent_route done = go (equality (judge_route n p sizes vertices lengths source target buffer) 0)
    where
      go : Equal (judge_route n p sizes vertices lengths source target buffer) 0
          → PlainRoute p sizes vertices lengths source target (route_network n p sizes vertices lengths source target buffer).answer (route_network n p sizes vertices lengths source target buffer).arcs
      go (differ t q) = absurd (q (rw t at done))
      go (equal t q) =
          let ok = lent_target q in
          let qs = pieces_of p sizes vertices lengths in
          rw t (record { arcs = route_to (labelling (blocks qs) source) target; written = refl; counted = refl; routed = routed n qs source ok.0 target ok.1 ok.2 })
