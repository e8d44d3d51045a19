-- The arc that a vertex was settled by, in one word.
--   arc_word               the places of its two ends, among those of all pieces
--   tail_of head_of piece_of length_of ArcPlaces    what a word says, and that both places are of one piece
--   lent_arc               the arc of a word, read in the lent buffers
--   Traced                a word for each entry of the blocks
--   HeldArc ArcsHeld      a word for a vertex, 0 where there is no arc; for every vertex
--   arcs_blank arcs_more  when the source is settled; one settled vertex more
use Rattle.std.specs.Prelude.{◌≡◌, refl, cond, List, [], ◌∷◌, ◌++◌, ◌≢◌, ℕ, suc, ◌+◌, ◌-◌, ◌*◌, ◌/◌, ◌≤◌, ◌<◌, get_or, length, set, replicate, eqb}
use Rattle.std.proofs.Common.{◌∙◌, arith, length-set, get_or-set_same, get_or-set_other}
use Rattle.std.proofs.Math.Option.{Option, none, some}
use Rattle.std.proofs.lemmas.List.{length-replicate, get_or-replicate}
use Rattle.definitions.specs.Limits.{max_vertices, row_places, vertex_places, label_places}
use Rattle.definitions.specs.Network.{RouteArc}
use Rattle.definitions.specs.Blocks.{Block, no_block}
use Rattle.definitions.specs.Labelling.{Settled, settled_at, label_of, arc_of, arc_at}
use Rattle.logic.specs.Tests.{Truth, holds, fails, truth, Equal, equal, differ, equality}
use Rattle.labelling_laws.proofs.Labels.{arc_new, arc_other}
use Rattle.preparation.specs.Prepared.{row_in, last_in}

-- from the vertex at place x to the one at place y, both counted through all pieces
abbrev pub arc_word : ℕ → ℕ → ℕ
arc_word x y = vertex_places * x + y

-- these two places
abbrev pub tail_of : ℕ → ℕ
tail_of w = w / vertex_places

abbrev pub head_of : ℕ → ℕ
head_of w = w - vertex_places * (w / vertex_places)

-- the piece of both ends, from 0
abbrev pub piece_of : ℕ → ℕ
piece_of w = w / vertex_places / row_places

-- the place of its length
abbrev pub length_of : ℕ → ℕ
length_of w = row_places * tail_of w + (head_of w - row_places * piece_of w)

-- both are places of one piece
pub record ArcPlaces (w : ℕ) : Type 0 where
  pub small : w < vertex_places * vertex_places
  pub from_piece : row_places * piece_of w ≤ head_of w
  pub in_piece : head_of w < row_places * piece_of w + row_places

unfoldable pub lent_arc : List ℕ → List ℕ → ℕ → RouteArc
lent_arc vertices lengths w = record {
  from = get_or vertices (tail_of w) 0;
  to = get_or vertices (head_of w) 0;
  piece = suc (piece_of w);
  length = get_or lengths (length_of w) 0;
}

-- f reads the words: that of row r and column c of block b is the arc of this entry
abbrev pub Traced : (ℕ → RouteArc) → List ℕ → List Block → Type 0
Traced f numbers bs = (b r c : ℕ) → b < length bs → r < length (get_or bs b no_block).rows → c < length (get_or bs b no_block).cols
    → let w = arc_word (row_in numbers b + r) (last_in numbers b - c) in (arc_at (get_or bs b no_block) r c ≡ f w) × ArcPlaces w

-- a word for a vertex
abbrev pub HeldArc : (ℕ → RouteArc) → Option RouteArc → ℕ → Type 0
HeldArc f none w = w ≡ 0
HeldArc f (some a) w = (a ≡ f w) × ArcPlaces w

-- words for the settled vertices; vertex v at place v - 1
pub record ArcsHeld (f : ℕ → RouteArc) (settled : List Settled) (arcs : List ℕ) : Type 0 where
  pub long : length arcs ≡ label_places
  pub each : (v : ℕ) → 1 ≤ v → v ≤ max_vertices → HeldArc f (arc_of v settled) (get_or arcs (v - 1) 0)

-- the source is settled by no arc
pub arcs_blank : (f : ℕ → RouteArc) (source : ℕ) → ArcsHeld f (settled_at source 0 none ∷ []) (replicate label_places 0)
unfolding arc_of
arcs_blank f source = record { long = length-replicate {A = ℕ} label_places 0; each = λ v a b. go v a b (truth (eqb v source)) }
  where
    go : (v : ℕ) → 1 ≤ v → v ≤ max_vertices → Truth (eqb v source) → HeldArc f (cond (eqb v source) none none) (get_or (replicate label_places 0) (v - 1) 0)
    go v a b (holds t) = rw t (get_or-replicate label_places (v - 1) 0 0 (omega arith))
    go v a b (fails t) = rw t (get_or-replicate label_places (v - 1) 0 0 (omega arith))

-- one settled vertex more, with the word of its arc
pub arcs_more : {f : ℕ → RouteArc} {settled : List Settled} {arcs : List ℕ} → ArcsHeld f settled arcs
    → (v l : ℕ) (a : RouteArc) (w : ℕ) → 1 ≤ v → v ≤ max_vertices → label_of v settled ≡ none → HeldArc f (some a) w
    → ArcsHeld f (settled ++ settled_at v l (some a) ∷ []) (set arcs (v - 1) w)
arcs_more {f = f} {settled = settled} {arcs = arcs} held v l a w low high new h =
    record { long = length-set arcs (v - 1) w ∙ held.long; each = λ u b c. go u b c (equality u v) }
  where
    go : (u : ℕ) → 1 ≤ u → u ≤ max_vertices → Equal u v → HeldArc f (arc_of u (settled ++ settled_at v l (some a) ∷ [])) (get_or (set arcs (v - 1) w) (u - 1) 0)
    go u b c (equal _ q) = rw (q, arc_new v (settled_at v l (some a)) settled refl new, get_or-set_same arcs (v - 1) w 0 (omega (arith, held.long))) h
    go u b c (differ _ n) =
        let m : u - 1 ≢ v - 1 = λ e. n (omega arith) in
        rw (arc_other u (settled_at v l (some a)) settled n, get_or-set_other arcs (v - 1) (u - 1) w 0 m) (held.each u b c)
