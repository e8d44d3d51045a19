-- The labelling of an accepted network: its blocks are those of the pieces, so the laws of the labelling of blocks apply.
--   setting                                 an accepted network is a setting
--   labels_limited label_distance above_n   labels; a place of the label buffer, as a distance; places above n
--   extractions_weight insertions_most insertions_weight insertions_held    the counts, against the sum over the pieces
--   reached_count                           the vertices reached are the places that hold a label
--   route routed                            the arcs to a vertex
--   route_source route_unreached            none lead to the source or to a vertex that is not settled
use Rattle.std.specs.Prelude.{◌≡◌, refl, ◌≢◌, eqb, get_or}
use Rattle.std.proofs.Math.Path.{sym}
use Rattle.std.proofs.Common.{◌∙◌, eq-eqb, ne_eqb}
use Rattle.std.proofs.Math.Option.{none, some}
use Rattle.std.proofs.Math.Bool.{not}
use mathlib.Core.List.{List, [], ◌∷◌, map}
use Prim.Native.Nat.{ℕ, suc, ◌+◌, ◌-◌, ◌*◌, ◌≤◌, ◌<◌}
use native.Mathlib.Omega.{arith}
use Rattle.std.proofs.Math.ListN.{length, length-map}
use Rattle.definitions.specs.Limits.{max_size, max_label, label_places, unreached}
use Rattle.definitions.specs.Lists.{count, mem, total, Every}
use Rattle.definitions.specs.Network.{Piece, Open, Distance, distance, none, RouteArc, IsArc, vertices_on, Route, Routed}
use Rattle.definitions.specs.Blocks.{blocks, weight}
use Rattle.definitions.specs.Labelling.{Settled, State, label_of, columns, labelling, reached, extractions, insertions, held_label, labels, route_to}
use Rattle.definitions.proofs.Laws.CauseLaws.{bounds_in, source_in}
use Rattle.logic.specs.Tests.{Equal, equal, differ, equality}
use Rattle.basics.specs.ListLaws.{every_map, Different, is_different, counted, count_same}
use Rattle.labelling_laws.specs.Labels.{Status, settled, unsettled}
use Rattle.labelling_laws.proofs.Labels.{status, labelled_mem, unlabelled, arc_none}
use Rattle.labelling_laws.specs.OneBlock.{inserted_most}
use Rattle.labelling_laws.specs.Walks.{IsBlockArc}
use Rattle.labelling_laws.specs.BlockSteps.{Setting}
use Rattle.labelling_laws.proofs.Ends.{labels_short, labels_in, reached_few, vertices_in, vertices_differ, extractions_bound, insertions_bound}
use Rattle.labelling_laws.specs.Exact.{BlockDistance}
use Rattle.labelling_laws.proofs.Exact.{labels_exact}
use Rattle.labelling_laws.specs.Acceptance.{Accepted, Suits}
use Rattle.labelling_laws.proofs.Acceptance.{suits}
use Rattle.labelling_laws.proofs.Arcs.{blocks_fit, of_piece, walk_to_blocks, walk_to_pieces, all_cols, few_closed, open_none, all_inserted}
use Rattle.labelling_laws.specs.Arcs.{PieceArc}
use Rattle.labelling_laws.proofs.LoopLaws.{labels_at, labels_read}
use Rattle.labelling_laws.proofs.Routes.{joined_map, block_route, source_arc, route_none}

-- ---- vertices from 1 on, as places from 0 on

places_of : List Settled → List ℕ
places_of xs = map (λ x. x.vertex - 1) xs

places_mem : (n i : ℕ) (xs : List Settled) → Every (λ x. (1 ≤ x.vertex) × (x.vertex ≤ n)) xs → mem i (places_of xs) ≡ mem (suc i) (map (λ x. x.vertex) xs)
unfolding mem places_of
places_mem n i [] h = refl
places_mem n i (x ∷ xs) h = go (equality i (x.vertex - 1)) (places_mem n i xs h.1)
  where
    go : Equal i (x.vertex - 1) → mem i (places_of xs) ≡ mem (suc i) (map (λ x. x.vertex) xs) → mem i (places_of (x ∷ xs)) ≡ mem (suc i) (map (λ x. x.vertex) (x ∷ xs))
    go (equal t q) ih = let z : suc i ≡ x.vertex = omega (arith, h.0) in simp (t, eq-eqb (suc i) x.vertex z)
    go (differ t q) ih = let z : suc i ≢ x.vertex = omega (arith, h.0) in simp (t, ne_eqb (suc i) x.vertex z) ih

places_differ : (n : ℕ) (xs : List Settled) → Every (λ x. (1 ≤ x.vertex) × (x.vertex ≤ n)) xs → Different (map (λ x. x.vertex) xs) → Different (places_of xs)
unfolding places_of
places_differ n [] h d = tt
places_differ n (x ∷ xs) h d =
    let q : suc (x.vertex - 1) ≡ x.vertex = omega (arith, h.0) in
    (places_mem n (x.vertex - 1) xs h.1 ∙ rw q d.0, places_differ n xs h.1 d.1)

module _ (n : ℕ) (pieces : List Piece) (source : ℕ) (ok : Accepted n pieces source) where
  abbrev suited : Every (Suits n) pieces
  suited = suits n pieces ok.pieces_pass

  pub setting : Setting (blocks pieces) n source
  setting = record {
    small = (bounds_in n (length pieces) ok.bounds).0;
    fits = blocks_fit n pieces suited;
    low = (source_in n source ok.source_passes).0;
    high = (source_in n source ok.source_passes).1;
  }

  abbrev last : State
  last = labelling (blocks pieces) source

  -- ---- labels

  pub labels_limited : (v l : ℕ) → label_of v (labelling (blocks pieces) source).settled ≡ some l → l ≤ max_label
  unfolding labelling
  labels_limited v l h = labels_short (blocks pieces) n source setting (columns (blocks pieces)) v l h

  pub held_limited : (i : ℕ) → i < label_places → get_or (labels (labelling (blocks pieces) source)) i 0 ≢ unreached → get_or (labels (labelling (blocks pieces) source)) i 0 ≤ max_label
  unfolding held_label
  held_limited i l h = rw (labels_at last i l) (go (status (suc i) last.settled))
    where
      go : Status (suc i) last.settled → held_label (label_of (suc i) last.settled) ≤ max_label
      go (settled k e) = rw e (labels_limited (suc i) k e)
      go (unsettled e) = absurd (h (labels_at last i l ∙ rw e))

  pub label_distance : (i : ℕ) → i < label_places → Distance pieces source (suc i) (get_or (labels (labelling (blocks pieces) source)) i 0)
  unfolding held_label
  label_distance i l = rw (labels_at last i l) (go (status (suc i) last.settled) (labels_exact (blocks pieces) n source setting (suc i)))
    where
      go : Status (suc i) last.settled → BlockDistance (blocks pieces) source (suc i) (label_of (suc i) last.settled)
          → Distance pieces source (suc i) (held_label (label_of (suc i) last.settled))
      go (settled l h) d =
          let e : BlockDistance (blocks pieces) source (suc i) (some l) = rw h at d in
          rw h (distance l (omega (arith, labels_limited (suc i) l h))
          (record { some = walk_to_pieces n pieces suited e.0; least = λ k p. e.1 k (walk_to_blocks n pieces suited p) }))
      go (unsettled h) d =
          let e : BlockDistance (blocks pieces) source (suc i) none = rw h at d in
          rw h (none (λ k p. e k (walk_to_blocks n pieces suited p)))

  pub above_n : (i : ℕ) → n ≤ i → i < label_places → get_or (labels (labelling (blocks pieces) source)) i 0 ≡ unreached
  unfolding labelling held_label
  above_n i m l = rw (labels_at last i l) (go (status (suc i) last.settled))
    where
      go : Status (suc i) last.settled → held_label (label_of (suc i) last.settled) ≡ unreached
      go (settled l h) = absurd (omega (arith, labels_in (blocks pieces) n source setting (columns (blocks pieces)) (suc i) l h))
      go (unsettled h) = rw h

  -- ---- counts

  pub extractions_weight : extractions (labelling (blocks pieces) source) ≤ weight pieces
  unfolding labelling columns
  extractions_weight = omega (arith, extractions_bound (blocks pieces) n source setting (columns (blocks pieces)), all_cols n pieces suited)

  pub insertions_most : insertions (labelling (blocks pieces) source) ≤ total (map inserted_most (blocks pieces))
  unfolding labelling
  insertions_most = insertions_bound (blocks pieces) n source setting (columns (blocks pieces))

  -- where every entry is a number
  pub insertions_weight : Open pieces → insertions (labelling (blocks pieces) source) ≤ 5 * weight pieces
  insertions_weight o = omega (arith, insertions_most, all_inserted n 0 pieces suited (open_none n pieces suited o))

  -- in any network
  pub insertions_held : insertions (labelling (blocks pieces) source) ≤ (5 + max_size) * weight pieces
  insertions_held = omega (arith, insertions_most, all_inserted n max_size pieces suited (few_closed n pieces suited))

  pub reached_count : reached (labelling (blocks pieces) source) ≡ count (λ i. not (eqb (get_or (labels (labelling (blocks pieces) source)) i 0) unreached)) label_places
  unfolding labelling reached held_label places_of
  reached_count =
      let inside = vertices_in (blocks pieces) n source setting (columns (blocks pieces)) in
      let m : length (places_of xs) ≡ length xs = simp length-map in
      sym m
      ∙ sym (counted label_places (places_of xs) (places_differ n xs inside (vertices_differ (blocks pieces) n source setting (columns (blocks pieces))))
      (every_map (λ x. (1 ≤ x.vertex) × (x.vertex ≤ n)) (λ i. i < label_places) (λ x. x.vertex - 1) xs (λ x k. omega (arith, setting.small)) inside))
      ∙ count_same (λ i. mem i (places_of xs)) (λ i. not (eqb (get_or (labels last) i 0) unreached)) label_places
      (λ i l. places_mem n i xs inside ∙ test i l (status (suc i) xs) ∙ rw (labels_at last i l))
    where
      xs : List Settled
      xs = last.settled

      test : (i : ℕ) → i < label_places → Status (suc i) xs → mem (suc i) (map (λ x. x.vertex) xs) ≡ not (eqb (held_label (label_of (suc i) xs)) unreached)
      test i l (settled k h) =
          let q : k ≢ unreached = omega (arith, labels_limited (suc i) k h) in
          labelled_mem (suc i) k xs h ∙ rw (h, ne_eqb k unreached q)
      test i l (unsettled h) = unlabelled (suc i) xs h ∙ rw h

  -- ---- routes

  piece_arc : (a : RouteArc) → IsBlockArc (blocks pieces) a → IsArc pieces a
  piece_arc a b =
      let s : PieceArc 1 pieces a.piece a.from a.to a.length = rw b.piece_is at (of_piece n a.from a.to a.length pieces suited b.arc) in
      record { low = s.low; high = omega (arith, s.high); arc = s.arc }

  pub route : (v l : ℕ) → label_of v (labelling (blocks pieces) source).settled ≡ some l → Route pieces source v l (route_to (labelling (blocks pieces) source) v)
  unfolding labelling reached
  route v l q =
      let r = block_route (blocks pieces) n source setting (columns (blocks pieces)) v l q in
      record {
        joins = joined_map (IsBlockArc (blocks pieces)) (IsArc pieces) piece_arc source v (route_to last v) r.joins;
        no_repeat = is_different (vertices_on source (route_to last v)) r.no_repeat;
        adds = r.adds;
        few = omega (arith, r.few, reached_few (blocks pieces) n source setting (columns (blocks pieces)), setting.small);
      }

  pub route_source : route_to (labelling (blocks pieces) source) source ≡ []
  unfolding labelling
  route_source = route_none last source (source_arc (blocks pieces) n source setting (columns (blocks pieces)))

  pub route_unreached : (v : ℕ) → label_of v (labelling (blocks pieces) source).settled ≡ none → route_to (labelling (blocks pieces) source) v ≡ []
  route_unreached v q = route_none last v (arc_none v last.settled q)

  pub routed : (v : ℕ) → 1 ≤ v → v ≤ n → Routed pieces source v (held_label (label_of v (labelling (blocks pieces) source).settled)) (route_to (labelling (blocks pieces) source) v)
  unfolding held_label
  routed v low high =
      let z : suc (v - 1) ≡ v = omega arith in
      let top : v ≤ label_places = omega (arith, setting.small) in
      record {
        distance = rw (labels_read last v low top, z) at (label_distance (v - 1) (omega arith));
        route = reach (status v last.settled);
        nowhere = miss (status v last.settled);
        at_source = λ e. rw (← e) route_source;
      }
    where
      reach : Status v last.settled → held_label (label_of v last.settled) ≢ unreached → Route pieces source v (held_label (label_of v last.settled)) (route_to last v)
      reach (settled l q) h = rw q (route v l q)
      reach (unsettled q) h = absurd (h (rw q))

      miss : Status v last.settled → held_label (label_of v last.settled) ≡ unreached → route_to last v ≡ []
      miss (settled l q) h = let r : l ≡ unreached = rw q at h in absurd (omega (arith, labels_limited v l q))
      miss (unsettled q) h = route_unreached v q
