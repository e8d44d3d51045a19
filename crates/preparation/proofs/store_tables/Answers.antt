-- `store_tables`: each table is stored behind those before it.
use mathlib.Core.Path.{◌≡◌, sym, ap, ◌∙◌}
use mathlib.Core.List.{List, [], ◌++◌, append_assoc, append-nil}
use Prim.Native.Nat.{ℕ, ◌-◌, ◌≤◌}
use native.Mathlib.Omega.{arith}
use lib.ListN.{length, take, drop, replicate, length-append}
use Rattle.definitions.specs.Lists.{padded}
use Rattle.basics.specs.ListLaws.{length_padded}
use Rattle.preparation.specs.Prepared.{parts_of, places_of, firsts_of, sizes_of, vertices_of, places_at, firsts_at, sizes_at, vertices_at, table_count, tables_of}
use Rattle.preparation.specs.Parts.{parts_long}
use Rattle.preparation.specs.PlaceTable.{places_long}
use Rattle.preparation.specs.Tables.{firsts_count, sizes_count, vertices_count}
use Rattle.preparation.proofs.TableLaws.{fresh_part, part_padded}
use Rattle.preparation.proofs.store_tables.Goals as goal

-- the tables ys stand at the front, up to place a
record Front (l ys : List ℕ) (a : ℕ) : Type 0 where
  is : l ≡ padded table_count 0 ys
  count : length ys ≡ a

-- a part is lent behind them, and comes back
abbrev stored : ℕ → ℕ → List ℕ → List ℕ → List ℕ
stored a e l part = take a l ++ (part ++ drop (e - a) (drop a l))

module _ (l ys : List ℕ) (a : ℕ) (h : Front l ys a) where
  long : a ≤ table_count → length l ≡ table_count
  long i = ap length h.is ∙ length_padded table_count 0 ys (omega (arith, h.count))

  zeros : (e : ℕ) → a ≤ e → e ≤ table_count → take (e - a) (drop a l) ≡ replicate (e - a) 0
  zeros e r i = rw h.is (fresh_part table_count ys a e h.count r i)

  one_more : (e : ℕ) (part table : List ℕ) → a ≤ e → e ≤ table_count → part ≡ table → length table ≡ e - a → Front (stored a e l part) (ys ++ table) e
  one_more e part table r i q n = record {
    is = rw (h.is, q) (part_padded table_count ys a e h.count r i table n);
    count = length-append ys table ∙ omega (arith, h.count);
  }

begun : (l : List ℕ) → l ≡ replicate table_count 0 → Front l [] 0
unfolding padded
begun l e = record { is = e; count = omega arith }

-- the tables, one behind the other
module _ (p : ℕ) (sizes vertices l : List ℕ) (fresh : l ≡ replicate table_count 0) (x₁ : List ℕ) (e₁ : x₁ ≡ parts_of p sizes) where
  abbrev l₁ : List ℕ
  l₁ = stored 0 places_at l x₁

  front₁ : Front l₁ ([] ++ parts_of p sizes) places_at
  front₁ = one_more l [] 0 (begun l fresh) places_at x₁ _ (omega arith) (omega arith) e₁ (parts_long p sizes)

  module _ (x₂ : List ℕ) (e₂ : x₂ ≡ places_of p sizes vertices) where
    abbrev l₂ : List ℕ
    l₂ = stored places_at firsts_at l₁ x₂

    front₂ : Front l₂ (([] ++ parts_of p sizes) ++ places_of p sizes vertices) firsts_at
    front₂ = one_more l₁ _ places_at front₁ firsts_at x₂ _ (omega arith) (omega arith) e₂ (places_long p sizes vertices)

    module _ (x₃ : List ℕ) (e₃ : x₃ ≡ firsts_of p sizes) where
      abbrev l₃ : List ℕ
      l₃ = stored firsts_at sizes_at l₂ x₃

      front₃ : Front l₃ ((([] ++ parts_of p sizes) ++ places_of p sizes vertices) ++ firsts_of p sizes) sizes_at
      front₃ = one_more l₂ _ firsts_at front₂ sizes_at x₃ _ (omega arith) (omega arith) e₃ (firsts_count p sizes vertices)

      module _ (x₄ : List ℕ) (e₄ : x₄ ≡ sizes_of p sizes) where
        abbrev l₄ : List ℕ
        l₄ = stored sizes_at vertices_at l₃ x₄

        front₄ : Front l₄ (((([] ++ parts_of p sizes) ++ places_of p sizes vertices) ++ firsts_of p sizes) ++ sizes_of p sizes) vertices_at
        front₄ = one_more l₃ _ sizes_at front₃ vertices_at x₄ _ (omega arith) (omega arith) e₄ (sizes_count p sizes vertices)

        module _ (x₅ : List ℕ) (e₅ : x₅ ≡ vertices_of vertices) where
          abbrev l₅ : List ℕ
          l₅ = stored vertices_at table_count l₄ x₅

          front₅ : Front l₅ ((((([] ++ parts_of p sizes) ++ places_of p sizes vertices) ++ firsts_of p sizes) ++ sizes_of p sizes) ++ vertices_of vertices) table_count
          front₅ = one_more l₄ _ vertices_at front₄ table_count x₅ _ (omega arith) (omega arith) e₅ (vertices_count p sizes vertices)

          all : l₅ ≡ tables_of p sizes vertices
          unfolding tables_of padded
          all =
              let ys = ((((([] ++ parts_of p sizes) ++ places_of p sizes vertices) ++ firsts_of p sizes) ++ sizes_of p sizes) ++ vertices_of vertices) in
              let e : table_count - length ys ≡ 0 = omega (arith, front₅.count) in
              front₅.is ∙ ap (λ (k : ℕ). ys ++ replicate k 0) e ∙ append-nil ys ∙ simp append_assoc

-- ---- needs
pub slice_bounds-fill_parts-end : goal.slice_bounds-fill_parts-end
slice_bounds-fill_parts-end c = omega (arith, long _ _ 0 (begun _ c.requires) (omega arith))

pub fill_parts-requires : goal.fill_parts-requires
fill_parts-requires c = zeros _ _ 0 (begun _ c.requires) places_at (omega arith) (omega arith)

pub slice_bounds-fill_places-end : goal.slice_bounds-fill_places-end
slice_bounds-fill_places-end c =
    let long = long _ _ _ (front₁ c.args.p c.args.sizes.now c.args.vertices.now _ c.requires _ c.fill_parts.ensures) (omega arith) in
    omega arith

pub fill_places-requires : goal.fill_places-requires
fill_places-requires c = zeros _ _ _ (front₁ c.args.p c.args.sizes.now c.args.vertices.now _ c.requires _ c.fill_parts.ensures) firsts_at (omega arith) (omega arith)

pub slice_bounds-fill_firsts-end : goal.slice_bounds-fill_firsts-end
slice_bounds-fill_firsts-end c =
    let long = long _ _ _ (front₂ c.args.p c.args.sizes.now c.args.vertices.now _ c.requires _ c.fill_parts.ensures _ c.fill_places.ensures) (omega arith) in
    omega arith

pub slice_bounds-fill_sizes-end : goal.slice_bounds-fill_sizes-end
slice_bounds-fill_sizes-end c =
    let long = long _ _ _ (front₃ c.args.p c.args.sizes.now c.args.vertices.now _ c.requires _ c.fill_parts.ensures _ c.fill_places.ensures _ c.fill_firsts.ensures) (omega arith) in
    omega arith

pub slice_bounds-fill_vertices-end : goal.slice_bounds-fill_vertices-end
slice_bounds-fill_vertices-end c =
    let long = long _ _ _ (front₄ c.args.p c.args.sizes.now c.args.vertices.now _ c.requires _ c.fill_parts.ensures _ c.fill_places.ensures _ c.fill_firsts.ensures _ c.fill_sizes.ensures) (omega arith) in
    omega arith

pub shape_of-tables : goal.shape_of-tables
shape_of-tables c =
    long _ _ _ (front₅ c.args.p c.args.sizes.now c.args.vertices.now _ c.requires _ c.fill_parts.ensures _ c.fill_places.ensures _ c.fill_firsts.ensures _ c.fill_sizes.ensures _ c.fill_vertices.ensures) (omega arith)
    ∙ sym (long _ _ 0 (begun _ c.requires) (omega arith))

pub returns : goal.returns
returns c = all c.args.p c.args.sizes.now c.args.vertices.now _ c.requires _ c.fill_parts.ensures _ c.fill_places.ensures _ c.fill_firsts.ensures _ c.fill_sizes.ensures _ c.fill_vertices.ensures
