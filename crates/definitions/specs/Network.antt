-- Document 01, "The tables and what is made of them": pieces, arcs and walks.
--   Rectangle Piece entry size_of     pieces with their vertices and lengths
--   Open                             a network without no path: document 02, request 7
--   ArcIn Arc Walk                   arcs, and walks with their lengths
--   Shortest Unreached Distance      what a label says
--   RouteArc IsArc Joined            arcs of a route, one behind the other
--   Route Routed                     what a route says
use Rattle.std.specs.Prelude.{◌≡◌, true, ◌≢◌, List, [], ◌∷◌, map, ℕ, ◌+◌, ◌-◌, ◌≤◌, ◌<◌, get_or, length}
use Rattle.definitions.specs.Limits.{max_arcs, unreached}
use Rattle.definitions.specs.Lists.{different, total, Every}
use Rattle.definitions.specs.Metres.{IsNumber}

-- The entry at a row and a column. How many rows and columns there are is given beside it.
abbrev pub Rectangle : Type 0
Rectangle = ℕ → ℕ → ℕ

-- A piece, 01's district: its vertices, 01's gates, in clockwise order, and the rows of its table.
pub record Piece : Type 0 where
  pub vertices : List ℕ
  pub rows : List (List ℕ)

-- The metres inside the piece from the vertex at place i to that at place j; places count from 0.
unfoldable pub entry : Piece → Rectangle
entry q i j = get_or (get_or q.rows i []) j 0

-- m, how many vertices it has
unfoldable pub size_of : Piece → ℕ
size_of q = length q.vertices

-- what stands past the last piece
abbrev pub no_piece : Piece
no_piece = record { vertices = []; rows = [] }

-- no table of these pieces shows that there is no path
abbrev pub Open : List Piece → Type 0
Open qs = Every (λ q. (i j : ℕ) → i < size_of q → j < size_of q → IsNumber (entry q i j)) qs

-- An arc, 01's leg, of a piece: from u to v, two different places of it, of the length l that its table has there, which is a number.
pub record ArcIn (q : Piece) (u v l : ℕ) : Type 0 where
  pub here : ℕ
  pub there : ℕ
  pub here_in : here < size_of q
  pub there_in : there < size_of q
  pub differ : here ≢ there
  pub tail : get_or q.vertices here 0 ≡ u
  pub head : get_or q.vertices there 0 ≡ v
  pub length_is : entry q here there ≡ l
  pub some_path : IsNumber l

-- an arc of one of the pieces: the union of their tables
pub record Arc (qs : List Piece) (u v l : ℕ) : Type 0 where
  pub number : ℕ
  pub number_in : number < length qs
  pub arc : ArcIn (get_or qs number no_piece) u v l

-- A walk, 01's run, from s to a vertex, with its length: no arc, or a walk and one arc more from where it ended.
pub data Walk (A : ℕ → ℕ → ℕ → Type 0) (s : ℕ) : ℕ → ℕ → Type 0 where
  stay : Walk A s s 0
  then : {u l v l' : ℕ} → Walk A s u l → A u v l' → Walk A s v (l + l')

-- the label is the length of some walk, and no walk is shorter
pub record Shortest (qs : List Piece) (s v label : ℕ) : Type 0 where
  pub some : Walk (Arc qs) s v label
  pub least : (l : ℕ) → Walk (Arc qs) s v l → label ≤ l

-- no walk leads there
abbrev pub Unreached : List Piece → ℕ → ℕ → Type 0
Unreached qs s v = (l : ℕ) → Walk (Arc qs) s v l → ⊥

-- what a place of the label buffer says of a vertex
pub data Distance (qs : List Piece) (s v : ℕ) : ℕ → Type 0 where
  distance : (label : ℕ) → label < unreached → Shortest qs s v label → Distance qs s v label
  none : Unreached qs s v → Distance qs s v unreached

-- ---- a route, arc by arc (document 02, request 4)

-- An arc of a route, 02's leg: from a vertex to a vertex, in a piece, with its length. Pieces count from 1.
pub record RouteArc : Type 0 where
  pub from : ℕ
  pub to : ℕ
  pub piece : ℕ
  pub length : ℕ

-- it is an arc of the piece of its number
pub record IsArc (qs : List Piece) (a : RouteArc) : Type 0 where
  pub low : 1 ≤ a.piece
  pub high : a.piece ≤ length qs
  pub arc : ArcIn (get_or qs (a.piece - 1) no_piece) a.from a.to a.length

-- the arcs have a property and join up from s to t: the first starts at s, each other one where the one before it ends, and the last ends at t
abbrev pub Joined : (RouteArc → Type 0) → ℕ → ℕ → List RouteArc → Type 0
Joined P s t [] = s ≡ t
Joined P s t (a ∷ arcs) = (a.from ≡ s) × P a × Joined P a.to t arcs

-- the vertices that arcs from s on pass, in order
abbrev pub vertices_on : ℕ → List RouteArc → List ℕ
vertices_on s arcs = s ∷ map (λ a. a.to) arcs

-- arcs that join up from s to t, no vertex twice, 255 at most, with lengths that add up to the label
pub record Route (qs : List Piece) (s t label : ℕ) (arcs : List RouteArc) : Type 0 where
  pub joins : Joined (IsArc qs) s t arcs
  pub no_repeat : different (vertices_on s arcs) ≡ true
  pub adds : total (map (λ a. a.length) arcs) ≡ label
  pub few : length arcs ≤ max_arcs

-- What a target's label and its arcs say: the label is the distance, and the arcs are a route of it, or none where no walk leads to the target. To the
-- source itself there are none either.
pub record Routed (qs : List Piece) (s t label : ℕ) (arcs : List RouteArc) : Type 0 where
  pub distance : Distance qs s t label
  pub route : label ≢ unreached → Route qs s t label arcs
  pub nowhere : label ≡ unreached → arcs ≡ []
  pub at_source : s ≡ t → arcs ≡ []
