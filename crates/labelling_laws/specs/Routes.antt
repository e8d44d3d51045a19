-- What is said of the route to a settled vertex. The laws are in proofs/.
--   vertices      the settled vertices, in the order settled
--   BlockRoute    the arcs back from a settled vertex, in order
--   Origin        the arc that a settled vertex was settled by
use Rattle.std.proofs.Math.Path.{◌≡◌}
use Rattle.std.specs.Prelude.{true, length}
use mathlib.Core.List.{List, map}
use Rattle.std.proofs.Math.Option.{some}
use Prim.Native.Nat.{ℕ, ◌<◌}
use Rattle.definitions.specs.Lists.{Every, mem, total}
use Rattle.definitions.specs.Network.{RouteArc, Joined, vertices_on}
use Rattle.definitions.specs.Blocks.{Block}
use Rattle.definitions.specs.Labelling.{Settled, arc_of}
use Rattle.basics.specs.ListLaws.{Different}
use Rattle.labelling_laws.specs.Walks.{IsBlockArc, Arrives}

-- the settled vertices, in the order settled
abbrev pub vertices : List Settled → List ℕ
vertices xs = map (λ x. x.vertex) xs

module _ (bs : List Block) (source : ℕ) where
  -- a route over settled vertices to the vertex v of label l
  pub record BlockRoute (xs : List Settled) (v l : ℕ) (arcs : List RouteArc) : Type 0 where
    pub joins : Joined (IsBlockArc bs) source v arcs
    pub no_repeat : Different (vertices_on source arcs)
    pub known : Every (λ u. mem u (vertices xs) ≡ true) (vertices_on source arcs)
    pub adds : total (map (λ a. a.length) arcs) ≡ l
    pub few : length arcs < length xs

  -- a settled vertex is the source, or was settled by an arc from one that is settled
  pub data Origin (xs : List Settled) (v l : ℕ) : Type 0 where
    source_itself : v ≡ source → l ≡ 0 → Origin xs v l
    by_arc : (a : RouteArc) → arc_of v xs ≡ some a → Arrives bs xs v l a → Origin xs v l
