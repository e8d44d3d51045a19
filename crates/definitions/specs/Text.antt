-- Document 01, "Text layout": what the reader leaves in the lent buffers. What an accepted text is and what 6 is left for say the laws in the file `Text` of proofs/.
--   sizes_of vertices_of lengths_of     what the reader leaves in the lent buffers
use Rattle.std.specs.Prelude.{ℕ}
use mathlib.Core.List.{List, map, flat_map}
use Rattle.definitions.specs.Limits.{size_places, vertex_places, length_places, row_places, table_places}
use Rattle.definitions.specs.Lists.{padded}
use Rattle.definitions.specs.Network.{Piece, size_of}

-- ---- the lent buffers

-- the sizes of the pieces; unused places are 0 here and below
unfoldable pub sizes_of : List Piece → List ℕ
sizes_of qs = padded size_places 0 (map size_of qs)

-- the vertices, 24 places for each piece
unfoldable pub vertices_of : List Piece → List ℕ
vertices_of qs = padded vertex_places 0 (flat_map (λ q. padded row_places 0 q.vertices) qs)

-- the lengths, 24 rows of 24 for each piece
unfoldable pub table_of : Piece → List ℕ
table_of q = padded table_places 0 (flat_map (padded row_places 0) q.rows)

unfoldable pub lengths_of : List Piece → List ℕ
lengths_of qs = padded length_places 0 (flat_map table_of qs)
