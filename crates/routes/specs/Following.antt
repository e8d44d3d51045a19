-- The arcs that the labelling keeps, followed back from a vertex that it reached.
--   Kept                              the words are those of the labelling of an accepted network
--   Passed passed                     a vertex that is not the source: the arc that it was settled by, and the arcs before that one
--   route_few none_left               at most 255; none where the source is reached
--   CountArcsNeeds CountArcsLeaves    what is needed and left where they are counted
--   CountArcsKeeps count-..           those that are counted so far
use Rattle.std.specs.Prelude.{◌≡◌, List, [], ◌∷◌, ◌++◌, ◌≢◌, ℕ, ◌+◌, ◌-◌, ◌≤◌, ◌<◌, length}
use Rattle.std.proofs.Math.Path.{ap, subst}
use Rattle.std.proofs.Common.{◌∙◌, arith, length-append}
use Rattle.std.proofs.Math.Option.{some}
use Rattle.std.proofs.Math.ListN.{get_or}
use Rattle.definitions.specs.Limits.{max_vertices, max_arcs, vertex_places, length_places}
use Rattle.definitions.specs.Network.{Piece, RouteArc}
use Rattle.definitions.specs.Blocks.{blocks}
use Rattle.definitions.specs.Labelling.{State, label_of, arc_of, columns, labelling, reached, route_to}
use Rattle.labelling_laws.specs.Acceptance.{Accepted}
use Rattle.labelling_laws.proofs.Ends.{labels_in}
use Rattle.labelling_laws.specs.Routes.{Origin, source_itself, by_arc}
use Rattle.labelling_laws.proofs.Routes.{origin, block_route, route_step}
use Rattle.labelling_laws.proofs.PieceBlocks.{setting, route, route_source}
use Rattle.engine.specs.Labeller.ArcWords.{tail_of, ArcPlaces, lent_arc, HeldArc, ArcsHeld}

-- the words of the arcs that the vertices of these pieces were settled by, from this source
pub record Kept (vertices lengths words : List ℕ) (source n : ℕ) (qs : List Piece) : Type 0 where
  pub accepted : Accepted n qs source
  pub vertices_long : length vertices ≡ vertex_places
  pub lengths_long : length lengths ≡ length_places
  pub held : ArcsHeld (lent_arc vertices lengths) (labelling (blocks qs) source).settled words

-- the last state, and the arcs that lead to a vertex in it
abbrev pub last_state : List Piece → ℕ → State
last_state qs source = labelling (blocks qs) source

abbrev pub route_in : List Piece → ℕ → ℕ → List RouteArc
route_in qs source v = route_to (last_state qs source) v

-- v has a label
abbrev pub HasLabel : List Piece → ℕ → ℕ → Type 0
HasLabel qs source v = (l : ℕ) × (label_of v (last_state qs source).settled ≡ some l)

-- the arc that v was settled by is that of its word, and the arcs before it lead to where it starts
pub record Passed (vertices lengths words : List ℕ) (source : ℕ) (qs : List Piece) (v : ℕ) : Type 0 where
  pub places : ArcPlaces (get_or words (v - 1) 0)
  pub before : HasLabel qs source (get_or vertices (tail_of (get_or words (v - 1) 0)) 0)
  pub arcs_are : route_in qs source v ≡ route_in qs source (get_or vertices (tail_of (get_or words (v - 1) 0)) 0) ++ lent_arc vertices lengths (get_or words (v - 1) 0) ∷ []

module _ {vertices lengths words : List ℕ} {source n : ℕ} {qs : List Piece} (kept : Kept vertices lengths words source n qs) (v : ℕ) (has : HasLabel qs source v) where
  abbrev st : State
  st = last_state qs source

  pub vertex_in_lem : (1 ≤ v) × (v ≤ max_vertices)
  unfolding labelling
  vertex_in_lem =
      let r = labels_in (blocks qs) n source (setting n qs source kept.accepted) (columns (blocks qs)) v has.0 has.1 in
      (r.0, omega (arith, r.1, (setting n qs source kept.accepted).small))

  pub word_in : v - 1 < length words
  word_in = omega (arith, vertex_in_lem, kept.held.long)

  pub route_few : length (route_in qs source v) ≤ max_arcs
  route_few = (route n qs source kept.accepted v has.0 has.1).few

  few_steps : length (route_to st v) < reached st
  unfolding labelling reached
  few_steps = (block_route (blocks qs) n source (setting n qs source kept.accepted) (columns (blocks qs)) v has.0 has.1).few

  from_arc : (a : RouteArc) → arc_of v st.settled ≡ some a → HasLabel qs source a.from → Passed vertices lengths words source qs v
  unfolding lent_arc
  from_arc a is before =
      let w = get_or words (v - 1) 0 in
      let h : HeldArc (lent_arc vertices lengths) (some a) w = rw is at (kept.held.each v vertex_in_lem.0 vertex_in_lem.1) in
      let from : a.from ≡ get_or vertices (tail_of w) 0 = ap (λ (x : RouteArc). x.from) h.0 in
      record {
        places = h.1;
        before = subst (HasLabel qs source) from before;
        arcs_are = route_step st v a is few_steps ∙ ap (λ (x : RouteArc). route_in qs source x.from ++ x ∷ []) h.0;
      }

  pub passed : v ≢ source → Passed vertices lengths words source qs v
  unfolding labelling
  passed other = go (origin (blocks qs) n source (setting n qs source kept.accepted) (columns (blocks qs)) v has.0 has.1)
    where
      go : Origin (blocks qs) source st.settled v has.0 → Passed vertices lengths words source qs v
      go (source_itself e z) = absurd (other e)
      go (by_arc a is h) = from_arc a is (h.before, h.from_is)

  -- where the source is reached no arc is left
  pub none_left : v ≡ source → length (route_in qs source v) ≡ 0
  none_left e = rw (e, route_source n qs source kept.accepted)

-- ---- they are counted

pub record CountArcsNeeds (vertices words : List ℕ) (source target : ℕ) : Type 0 where
  pub lengths : List ℕ
  pub n : ℕ
  pub pieces : List Piece
  pub kept : Kept vertices lengths words source n pieces
  pub reaches : HasLabel pieces source target

abbrev pub CountArcsLeaves : List ℕ → List ℕ → ℕ → ℕ → ℕ → Type 0
CountArcsLeaves vertices words source target r = (lengths : List ℕ) (n : ℕ) (qs : List Piece) → Kept vertices lengths words source n qs → HasLabel qs source target
    → r ≡ length (route_in qs source target)

-- so many are counted, and those that lead to v are left
pub record CountArcsKeeps (vertices words : List ℕ) (source target v count : ℕ) : Type 0 where
  pub there : (lengths : List ℕ) (n : ℕ) (qs : List Piece) → Kept vertices lengths words source n qs → HasLabel qs source target → HasLabel qs source v
  pub left : (lengths : List ℕ) (n : ℕ) (qs : List Piece) → Kept vertices lengths words source n qs → HasLabel qs source target
      → count + length (route_in qs source v) ≡ length (route_in qs source target)

module _ {vertices words : List ℕ} {source target : ℕ} (needs : CountArcsNeeds vertices words source target) where
  pub count_begun : CountArcsKeeps vertices words source target target 0
  count_begun = record { there = λ lengths n qs k h. h; left = λ lengths n qs k h. omega arith }

  module _ {v count : ℕ} (r : CountArcsKeeps vertices words source target v count) where
    has_label : HasLabel needs.pieces source v
    has_label = r.there needs.lengths needs.n needs.pieces needs.kept needs.reaches

    pub count_in : (1 ≤ v) × (v ≤ max_vertices) × (v - 1 < length words)
    count_in = let i = vertex_in_lem needs.kept v has_label in (i.0, i.1, word_in needs.kept v has_label)

    pub count_done : v ≡ source → CountArcsLeaves vertices words source target count
    count_done e lengths n qs k h = omega (arith, r.left lengths n qs k h, none_left k v (r.there lengths n qs k h) e)

    module _ (other : v ≢ source) where
      pub count_passed : ArcPlaces (get_or words (v - 1) 0) × (length vertices ≡ vertex_places)
      count_passed = ((passed needs.kept v has_label other).places, needs.kept.vertices_long)

      next_left : (lengths : List ℕ) (n : ℕ) (qs : List Piece) → Kept vertices lengths words source n qs → HasLabel qs source target
          → count + 1 + length (route_in qs source (get_or vertices (tail_of (get_or words (v - 1) 0)) 0)) ≡ length (route_in qs source target)
      next_left lengths n qs k h =
          let p = passed k v (r.there lengths n qs k h) other in
          omega (arith, r.left lengths n qs k h, ap length p.arcs_are ∙ length-append (route_in qs source (get_or vertices (tail_of (get_or words (v - 1) 0)) 0)) (lent_arc vertices lengths (get_or words (v - 1) 0) ∷ []))

      pub count_few : count < max_arcs
      count_few = omega (arith, next_left needs.lengths needs.n needs.pieces needs.kept needs.reaches, route_few needs.kept target needs.reaches)

      pub count_next : (u : ℕ) → u ≡ get_or vertices (tail_of (get_or words (v - 1) 0)) 0 → CountArcsKeeps vertices words source target u (count + 1)
      count_next u e = rw e (record {
        there = λ lengths n qs k h. (passed k v (r.there lengths n qs k h) other).before;
        left = next_left;
      })
