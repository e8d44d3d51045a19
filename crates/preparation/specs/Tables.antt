-- What stands in the one array of tables.
--   parts-count .. tables_count      how long the tables are
--   in_parts NumbersSame numbers_same    the numbers of a block
--   start_in_lem next_in_lem first_in_lem size_in_lem vertex_in_lem    the others
use Rattle.std.specs.Prelude.{◌≡◌, List, ◌++◌, ℕ, ◌+◌, ◌-◌, ◌*◌, ◌≤◌, ◌<◌, length}
use Rattle.std.proofs.Common.{◌∙◌, arith, get_or-append-add}
use Rattle.std.proofs.Math.ListN.{get_or, length-append, length-map, get_or-append}
use Rattle.definitions.specs.Limits.{max_vertices, max_pieces, vertex_places}
use Rattle.definitions.specs.Lists.{up_from}
use Rattle.basics.specs.Sequences.{length_up_from, get_or_each}
use Rattle.preparation.specs.Prepared.{size_at, max_blocks, part_numbers, slot_in, row_in, col_in, cols_in, last_in, row_count_in, part_places, place_count, parts_of, places_of, blocks_up_to, firsts_of, sizes_of, vertices_of, places_at, nexts_at, firsts_at, sizes_at, vertices_at, table_count, tables_of, start_in, next_in, first_in, size_in, vertex_in}
use Rattle.preparation.specs.PlaceTable.{places_long}
use Rattle.preparation.specs.Parts.{parts_long}

pub record NumbersSame (numbers parts : List ℕ) (b : ℕ) : Type 0 where
  pub slot : slot_in numbers b ≡ slot_in parts b
  pub row : row_in numbers b ≡ row_in parts b
  pub col : col_in numbers b ≡ col_in parts b
  pub cols : cols_in numbers b ≡ cols_in parts b
  pub last : last_in numbers b ≡ last_in parts b
  pub row_count : row_count_in numbers b ≡ row_count_in parts b

module _ (p : ℕ) (sizes vertices : List ℕ) where
  pub firsts_count : length (firsts_of p sizes) ≡ max_pieces
  unfolding firsts_of
  firsts_count = length-map (up_from 0 max_pieces) (blocks_up_to p sizes) ∙ length_up_from 0 max_pieces

  pub sizes_count : length (sizes_of p sizes) ≡ max_pieces
  unfolding sizes_of
  sizes_count = length-map (up_from 0 max_pieces) (size_at p sizes) ∙ length_up_from 0 max_pieces

  pub vertices_count : length (vertices_of vertices) ≡ vertex_places
  unfolding vertices_of
  vertices_count = length-map (up_from 0 vertex_places) (λ (i : ℕ). get_or vertices i 0) ∙ length_up_from 0 vertex_places

  -- what stands behind the first, the second, .. table
  abbrev T₄ : List ℕ
  T₄ = vertices_of vertices

  abbrev T₃ : List ℕ
  T₃ = sizes_of p sizes ++ T₄

  abbrev T₂ : List ℕ
  T₂ = firsts_of p sizes ++ T₃

  abbrev T₁ : List ℕ
  T₁ = places_of p sizes vertices ++ T₂

  pub tables_count : length (tables_of p sizes vertices) ≡ table_count
  unfolding tables_of
  tables_count = simp length-append (omega (arith, parts_long p sizes, places_long p sizes vertices, firsts_count, sizes_count, vertices_count))

  behind : (xs ys : List ℕ) (n i : ℕ) → length xs ≡ n → get_or (xs ++ ys) (n + i) 0 ≡ get_or ys i 0
  behind xs ys n i e = rw (← e) (get_or-append-add xs ys i 0)

  pub in_parts : (i : ℕ) → i < part_places → get_or (tables_of p sizes vertices) i 0 ≡ get_or (parts_of p sizes) i 0
  unfolding tables_of
  in_parts i l = get_or-append (parts_of p sizes) T₁ 0 i (omega (arith, parts_long p sizes))

  -- block b has the numbers that are stored for it
  pub numbers_same : (b : ℕ) → b < max_blocks → NumbersSame (tables_of p sizes vertices) (parts_of p sizes) b
  numbers_same b l = record {
    slot = in_parts (part_numbers * b) (omega arith);
    row = in_parts (part_numbers * b + 1) (omega arith);
    col = in_parts (part_numbers * b + 2) (omega arith);
    cols = in_parts (part_numbers * b + 3) (omega arith);
    last = in_parts (part_numbers * b + 4) (omega arith);
    row_count = in_parts (part_numbers * b + 5) (omega arith);
  }

  from_places : (i : ℕ) → get_or (tables_of p sizes vertices) (places_at + i) 0 ≡ get_or T₁ i 0
  unfolding tables_of
  from_places i = behind (parts_of p sizes) T₁ places_at i (parts_long p sizes)

  from_firsts : (i : ℕ) → get_or (tables_of p sizes vertices) (firsts_at + i) 0 ≡ get_or T₂ i 0
  from_firsts i =
      let e : firsts_at + i ≡ places_at + (place_count + i) = omega arith in
      rw e (from_places (place_count + i) ∙ behind (places_of p sizes vertices) T₂ place_count i (places_long p sizes vertices))

  from_sizes : (i : ℕ) → get_or (tables_of p sizes vertices) (sizes_at + i) 0 ≡ get_or T₃ i 0
  from_sizes i = let e : sizes_at + i ≡ firsts_at + (max_pieces + i) = omega arith in rw e (from_firsts (max_pieces + i) ∙ behind (firsts_of p sizes) T₃ max_pieces i firsts_count)

  from_vertices : (i : ℕ) → get_or (tables_of p sizes vertices) (vertices_at + i) 0 ≡ get_or T₄ i 0
  from_vertices i = let e : vertices_at + i ≡ sizes_at + (max_pieces + i) = omega arith in rw e (from_sizes (max_pieces + i) ∙ behind (sizes_of p sizes) T₄ max_pieces i sizes_count)

  pub start_in_lem : (v : ℕ) → 1 ≤ v → v ≤ max_vertices → start_in (tables_of p sizes vertices) v ≡ get_or (places_of p sizes vertices) (v - 1) 0
  start_in_lem v l h = from_places (v - 1) ∙ get_or-append (places_of p sizes vertices) T₂ 0 (v - 1) (omega (arith, places_long p sizes vertices))

  pub next_in_lem : (x : ℕ) → x < vertex_places → next_in (tables_of p sizes vertices) x ≡ get_or (places_of p sizes vertices) (max_vertices + x) 0
  next_in_lem x l =
      let e : nexts_at + x ≡ places_at + (max_vertices + x) = omega arith in
      rw e (from_places (max_vertices + x) ∙ get_or-append (places_of p sizes vertices) T₂ 0 (max_vertices + x) (omega (arith, places_long p sizes vertices)))

  pub first_in_lem : (d : ℕ) → d < max_pieces → first_in (tables_of p sizes vertices) d ≡ get_or (firsts_of p sizes) d 0
  first_in_lem d l = from_firsts d ∙ get_or-append (firsts_of p sizes) T₃ 0 d (omega (arith, firsts_count))

  pub size_in_lem : (d : ℕ) → d < max_pieces → size_in (tables_of p sizes vertices) d ≡ size_at p sizes d
  unfolding sizes_of
  size_in_lem d l = from_sizes d ∙ get_or-append (sizes_of p sizes) T₄ 0 d (omega (arith, sizes_count)) ∙ get_or_each (size_at p sizes) max_pieces d 0 l

  pub vertex_in_lem : (i : ℕ) → i < vertex_places → vertex_in (tables_of p sizes vertices) i ≡ get_or vertices i 0
  unfolding vertices_of
  vertex_in_lem i l = from_vertices i ∙ get_or_each (λ (j : ℕ). get_or vertices j 0) vertex_places i 0 l
