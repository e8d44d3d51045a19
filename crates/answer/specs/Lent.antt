-- What is listed of a network in lent buffers, from what the labelling and the route answer.
--   Lent lent_state               a lent network that no cause turns away, with its source; its labelling
--   state_listing_lem route_listing_lem  both kinds of listing, by what the buffers of labels and of a route hold
--   route_few                    at most 255 arcs lead to a vertex of an accepted network
--   vertices_few labels_listed   the lines that are put from the buffer of labels are the listing of the labels
--   arcs_few route_listed        the lines that are put from the buffer of a route are the listing of the route
use Rattle.std.proofs.Math.Path.{◌≡◌, ap}
use Rattle.std.specs.Prelude.{refl, ℕ, zero, suc, ◌+◌, ◌≤◌, length}
use Rattle.std.proofs.Common.{sym, arith, eq-eqb}
use mathlib.Core.List.{List, [], ◌∷◌, ◌++◌, flat_map}
use Rattle.definitions.specs.declared.LabelAnswer.{LabelAnswer}
use Rattle.definitions.specs.declared.RouteAnswer.{RouteAnswer}
use Rattle.definitions.specs.Limits.{max_vertices, max_arcs, label_places, route_places}
use Rattle.definitions.specs.Lists.{up_from, first_cause}
use Rattle.definitions.specs.Network.{Piece}
use Rattle.definitions.specs.Blocks.{blocks}
use Rattle.definitions.specs.Labelling.{State, label_of, labelling, held_label, labels, route_to}
use Rattle.definitions.specs.Judgement.{judge_bounds, judge_source, judge_target, pieces_of, judge_from, judge_network}
use Rattle.definitions.specs.Entries.{AfterLabel, AfterRoute, has_places, judge_buffers, judge_labelling, label_answer, label_network, judge_route, arcs_of, route_answer, route_network, judge_lent, listing_line, state_listing, route_listing}
use Rattle.definitions.proofs.Laws.CauseLaws.{no_cause, bounds_in}
use Rattle.labelling_laws.specs.Acceptance.{Accepted}
use Rattle.labelling_laws.specs.Labels.{Status, settled, unsettled}
use Rattle.labelling_laws.proofs.Labels.{status}
use Rattle.labelling_laws.proofs.LoopLaws.{labels_read}
use Rattle.labelling_laws.proofs.LentNetworks.{lent_target}
use Rattle.labelling_laws.proofs.LabellingTheorems.{routes, route_unreached}
use Rattle.answer.specs.Lines.{lines_from, vertex_lines, arc_lines, arcs_lines}

-- no cause turns the network in these buffers away, nor the source
pub record Lent (n p : ℕ) (sizes vertices lengths : List ℕ) (source : ℕ) : Type 0 where
  pub network : judge_lent n p sizes vertices lengths ≡ 0
  pub source_in : judge_source n source ≡ 0

-- its labelling
abbrev pub lent_state : ℕ → List ℕ → List ℕ → List ℕ → ℕ → State
lent_state p sizes vertices lengths source = labelling (blocks (pieces_of p sizes vertices lengths)) source

-- ---- lines of any state

-- the lines by the buffer's places are those by the settled vertices
lines_same : (st : State) (v k : ℕ) → 1 ≤ v → v + k ≤ suc label_places → vertex_lines (labels st) v k ≡ flat_map (λ w. listing_line (w ∷ held_label (label_of w st.settled) ∷ [])) (up_from v k)
unfolding lines_from flat_map up_from
lines_same st v zero low high = refl
lines_same st v (suc k) low high = rw (labels_read st v low (omega arith), lines_same st (suc v) k (omega arith) (omega arith))

pub state_listing_lem : (n source : ℕ) (st : State) → n ≤ max_vertices
    → state_listing n source st ≡ listing_line (source ∷ (label_answer st).reached ∷ (label_answer st).extracted ∷ (label_answer st).inserted ∷ []) ++ vertex_lines (labels st) 1 n
unfolding state_listing label_answer
state_listing_lem n source st h = rw (lines_same st 1 n (omega arith) (omega arith))

pub route_listing_lem : (source target : ℕ) (st : State)
    → route_listing source target st ≡ listing_line (source ∷ target ∷ (route_answer st target).label ∷ (route_answer st target).arcs ∷ []) ++ arc_lines (arcs_of (route_to st target)) 0 (length (route_to st target))
unfolding route_listing route_answer
route_listing_lem source target st = rw (arcs_lines (route_to st target))

-- ---- how many arcs

pub route_few : (n : ℕ) (qs : List Piece) (source : ℕ) → Accepted n qs source → (v : ℕ) → length (route_to (labelling (blocks qs) source) v) ≤ max_arcs
route_few n qs source ok v = go (status v (labelling (blocks qs) source).settled)
  where
    go : Status v (labelling (blocks qs) source).settled → length (route_to (labelling (blocks qs) source) v) ≤ max_arcs
    go (settled l q) = (routes n qs source ok v l q).few
    go (unsettled q) = rw (route_unreached n qs source ok v q) (omega arith)

-- ---- the network

module _ (n p : ℕ) (s v l : List ℕ) (source : ℕ) (lent : Lent n p s v l source) where
  buffers_pass : judge_buffers (length s) (length v) (length l) ≡ 0
  unfolding judge_lent
  buffers_pass = (no_cause (judge_buffers (length s) (length v) (length l) ∷ judge_network n p s v l ∷ []) lent.network).0

  network_passes : judge_network n p s v l ≡ 0
  unfolding judge_lent
  network_passes = (no_cause (judge_buffers (length s) (length v) (length l) ∷ judge_network n p s v l ∷ []) lent.network).1.0

  pub vertices_few : n ≤ max_vertices
  unfolding judge_network
  vertices_few = (bounds_in n p (no_cause (judge_bounds n p ∷ judge_from n s v l 0 p ∷ []) network_passes).0).0

  -- ---- its labels

  labels_accepted : (buffer : List ℕ) → length buffer ≡ label_places → judge_labelling n p s v l source buffer ≡ 0
  unfolding judge_labelling has_places first_cause
  labels_accepted buffer h = rw (eq-eqb _ _ h, buffers_pass, network_passes, lent.source_in)

  -- the counts, then a line for each vertex with the label at its place
  pub labels_listed : (answer : LabelAnswer) (buffer left : List ℕ) → length buffer ≡ label_places → ◌≡◌ {A = AfterLabel} (record { answer = answer; labels = left }) (label_network n p s v l source buffer)
      → listing_line (source ∷ answer.reached ∷ answer.extracted ∷ answer.inserted ∷ []) ++ vertex_lines left 1 n ≡ state_listing n source (lent_state p s v l source)
  unfolding label_network
  labels_listed answer buffer left h e =
      let st = lent_state p s v l source in
      let done : ◌≡◌ {A = AfterLabel} (record { answer = answer; labels = left }) (record { answer = label_answer st; labels = labels st }) = rw (labels_accepted buffer h) at e in
      let a : answer ≡ label_answer st = ap (λ (x : AfterLabel). x.answer) done in
      let b : left ≡ labels st = ap (λ (x : AfterLabel). x.labels) done in
      rw (a, b) (sym (state_listing_lem n source st vertices_few))

  -- ---- the route to a target

  module _ (target : ℕ) (target_in_lem : judge_target n target ≡ 0) (answer : RouteAnswer) (buffer left : List ℕ) (sized : length buffer ≡ route_places)
      (e : ◌≡◌ {A = AfterRoute} (record { answer = answer; arcs = left }) (route_network n p s v l source target buffer)) where
    abbrev st : State
    st = lent_state p s v l source

    route_accepted : judge_route n p s v l source target buffer ≡ 0
    unfolding judge_route has_places first_cause
    route_accepted = rw (eq-eqb _ _ sized, buffers_pass, network_passes, lent.source_in, target_in_lem)

    done : ◌≡◌ {A = AfterRoute} (record { answer = answer; arcs = left }) (record { answer = route_answer st target; arcs = arcs_of (route_to st target) })
    unfolding route_network
    done = rw route_accepted at e

    pub arcs_few : answer.arcs ≤ max_arcs
    unfolding route_answer
    arcs_few = rw (ap (λ (x : AfterRoute). x.answer.arcs) done) (route_few n (pieces_of p s v l) source (lent_target n p s v l source target buffer route_accepted).0 target)

    -- the label and the number of arcs, then a line for each arc with the numbers at its places
    pub route_listed : listing_line (source ∷ target ∷ answer.label ∷ answer.arcs ∷ []) ++ arc_lines left 0 answer.arcs ≡ route_listing source target st
    unfolding route_answer
    route_listed =
        let a : answer ≡ route_answer st target = ap (λ (x : AfterRoute). x.answer) done in
        let b : left ≡ arcs_of (route_to st target) = ap (λ (x : AfterRoute). x.arcs) done in
        rw (a, b) (sym (route_listing_lem source target st))
