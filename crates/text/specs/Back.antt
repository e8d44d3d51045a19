-- The pieces read back from the buffers that hold them: what the labelling is lent is what the text says.
use Rattle.std.specs.Prelude.{◌≡◌, refl, ℕ, suc, ◌+◌, ◌-◌, ◌*◌, get_or, take, drop}
use Rattle.std.proofs.Common.{sym, subst, ◌∙◌, arith, length-append, take_at, drop_at, drop-drop}
use Rattle.std.proofs.Math.Path.{ap}
use mathlib.Core.List.{List, [], ◌∷◌, ◌++◌, map, map-append, map_congr_left, flat_map, append_assoc}
use Rattle.std.proofs.Math.ListN.{length, replicate}
use Rattle.std.proofs.lemmas.List.{length-map, get_or_at}
use Rattle.basics.specs.ListLaws.{every_append}
use Rattle.basics.specs.Buffers.{flat_map_append}
use Rattle.definitions.specs.Limits.{length_places, row_places, table_places}
use Rattle.definitions.specs.Lists.{padded, up_from, Every}
use Rattle.definitions.specs.Network.{Piece, size_of}
use Rattle.definitions.specs.Judgement.{piece_at, pieces_of}
use Rattle.definitions.specs.Text.{sizes_of, vertices_of, table_of, lengths_of}
use Rattle.text.specs.PieceReading.{Shaped, vertices_long, tables_long}
use Rattle.text.specs.RowReading.{rows_from_lem}

-- a piece between others
module _ (done rest : List Piece) (q : Piece) (before : Every Shaped done) (shape : Shaped q) where
  pub size_back : get_or (sizes_of (done ++ q ∷ rest)) (length done) 0 ≡ size_of q
  unfolding sizes_of padded
  size_back = rw map-append (simp append_assoc (get_or_at (map size_of done) (size_of q) _ 0 (length done) (length-map done size_of)))

  vertices_back : take (size_of q) (drop (row_places * length done) (vertices_of (done ++ q ∷ rest))) ≡ q.vertices
  unfolding vertices_of padded flat_map size_of
  vertices_back =
      rw (flat_map_append (λ r. padded row_places 0 r.vertices) done (q ∷ rest))
      (simp append_assoc
      (rw (drop_at (flat_map (λ r. padded row_places 0 r.vertices) done) _ (row_places * length done) (vertices_long done before)) (take_at q.vertices _ (length q.vertices) refl)))

  -- what lies from the piece's table on
  behind : List ℕ
  behind = replicate (table_places - length (flat_map (padded row_places 0) q.rows)) 0 ++ (flat_map table_of rest ++ replicate (length_places - length (flat_map table_of (done ++ q ∷ rest))) 0)

  whole : lengths_of (done ++ q ∷ rest) ≡ flat_map table_of done ++ (flat_map (padded row_places 0) q.rows ++ behind)
  unfolding lengths_of padded flat_map table_of behind
  whole =
      ap (λ (l : List ℕ). l ++ replicate (length_places - length (flat_map table_of (done ++ q ∷ rest))) 0) (flat_map_append table_of done (q ∷ rest))
      ∙ simp append_assoc

  table_back : drop (table_places * length done) (lengths_of (done ++ q ∷ rest)) ≡ flat_map (padded row_places 0) q.rows ++ behind
  table_back = rw whole (drop_at (flat_map table_of done) (flat_map (padded row_places 0) q.rows ++ behind) (table_places * length done) (tables_long done before))

  rows_back_at : map (λ i. take (size_of q) (drop (table_places * length done + row_places * i) (lengths_of (done ++ q ∷ rest)))) (up_from 0 (size_of q)) ≡ q.rows
  rows_back_at =
      map_congr_left {g = λ i. take (size_of q) (drop (row_places * i) (flat_map (padded row_places 0) q.rows ++ behind))} {l = up_from 0 (size_of q)}
      (λ i _. ap (λ (l : List ℕ). take (size_of q) l) (sym (drop-drop (row_places * i) (table_places * length done) (lengths_of (done ++ q ∷ rest))) ∙ ap (λ (l : List ℕ). drop (row_places * i) l) table_back))
      ∙ rw (← shape.tall) (rows_from_lem (length q.rows) 0 [] behind q.rows (omega (arith, shape.tall, shape.high)) (rw (← shape.tall) at shape.wide) refl)

  pub piece_back : piece_at (sizes_of (done ++ q ∷ rest)) (vertices_of (done ++ q ∷ rest)) (lengths_of (done ++ q ∷ rest)) (length done) ≡ q
  unfolding piece_at
  piece_back = rw (size_back, vertices_back, rows_back_at)

-- the pieces from one on
pieces_from : (done rest : List Piece) → Every Shaped done → Every Shaped rest
    → map (piece_at (sizes_of (done ++ rest)) (vertices_of (done ++ rest)) (lengths_of (done ++ rest))) (up_from (length done) (length rest)) ≡ rest
unfolding up_from
pieces_from done [] before shapes = refl
pieces_from done (q ∷ rest) before shapes =
    let shift : done ++ q ∷ rest ≡ (done ++ q ∷ []) ++ rest = sym (append_assoc done (q ∷ []) rest) in
    let count : suc (length done) ≡ length (done ++ q ∷ []) = omega (arith, length-append done (q ∷ [])) in
    let next = pieces_from (done ++ q ∷ []) rest (every_append Shaped done (q ∷ []) before (shapes.0, tt)) shapes.1 in
    rw (piece_back done rest q before shapes.0) (ap (λ (l : List Piece). q ∷ l) (subst (λ (l : List Piece). map (piece_at (sizes_of l) (vertices_of l) (lengths_of l)) (up_from (suc (length done)) (length rest)) ≡ rest) (sym shift) (subst (λ (k : ℕ). map (piece_at (sizes_of ((done ++ q ∷ []) ++ rest)) (vertices_of ((done ++ q ∷ []) ++ rest)) (lengths_of ((done ++ q ∷ []) ++ rest))) (up_from k (length rest)) ≡ rest) (sym count) next)))

-- what the labelling reads from the reader's buffers is what the reader read
pub pieces_back : (qs : List Piece) → Every Shaped qs → pieces_of (length qs) (sizes_of qs) (vertices_of qs) (lengths_of qs) ≡ qs
unfolding pieces_of
pieces_back qs h = pieces_from [] qs tt h
