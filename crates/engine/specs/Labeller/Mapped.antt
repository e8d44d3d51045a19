-- What the prepared tables say of the pieces of a network and of their blocks, in the terms of the labelling's functions.
--   first_of first_none first_all    the number of a piece's first block
--   StandsIn NextIn                 a vertex stands at a place, a word names its first place from some piece on
--   MappedPiece Mapped              the tables are those of these pieces
--   traced mapped                   what is prepared from a lent network that is accepted
use Rattle.std.specs.Prelude.{◌≡◌, refl, ◌&&◌, List, ltb, take}
use Rattle.std.proofs.Math.Path.{sym}
use Rattle.std.proofs.Common.{ap, ◌∙◌, le_refl}
use Rattle.std.proofs.Math.Bool.{cond}
use Rattle.std.proofs.Math.Logic.{⊎_elim}
use Prim.Native.Nat.{ℕ, zero, suc, pred, ◌+◌, ◌-◌, ◌*◌, ◌/◌, ◌≤◌, ◌<◌}
use native.Mathlib.Omega.{arith}
use borrow.Author.Tests.{ltb-true}
use Rattle.std.proofs.Math.Dec.{leb}
use Rattle.std.proofs.Math.ListN.{get_or, length}
use Rattle.std.proofs.lemmas.List.{length-map}
use Rattle.std.proofs.Math.Seq.{take-length}
use Rattle.definitions.specs.Limits.{max_vertices, max_pieces, max_size, vertex_places, row_places}
use Rattle.definitions.specs.Network.{Piece, size_of, no_piece}
use Rattle.definitions.specs.Blocks.{windows_of, Block, no_block, block_of, blocks_from, blocks}
use Rattle.definitions.specs.Judgement.{piece_at, pieces_of}
use Rattle.definitions.specs.Labelling.{arc_at}
use Rattle.logic.specs.Tests.{split_at, Truth, holds, fails, truth}
use Rattle.basics.specs.ListLaws.{Different, every_at}
use Rattle.basics.specs.ListPlaces.{different_at}
use Rattle.basics.specs.Sequences.{length_up_from, get_or_each}
use Rattle.preparation.specs.Prepared.{size_at, placements_of, parts_of, blocks_up_to, firsts_of, row_in, cols_in, last_in, table_count, tables_of, start_in, next_in, first_in, size_in, vertex_in}
use Rattle.preparation.specs.Placements.{size_small, length_up_to}
use Rattle.preparation.specs.Numbering.{Fits, no_window, no_placement, size_of_is, first_is, firsts_are}
use Rattle.preparation.specs.PlaceTable.{StandsAt, vertex_at}
use Rattle.preparation.specs.Parts.{cols_is, last_is, row_at, placed, block_count, block_of_lem, cols_are, row_vertex_is, column_is, block_piece, block_places, block_length}
use Rattle.preparation.specs.Tables.{NumbersSame, numbers_same, tables_count, first_in_lem, size_in_lem, vertex_in_lem}
use Rattle.preparation.specs.PreparationTheorems.{the_count, the_window, first_place, next_place}
use Rattle.labelling_laws.specs.Acceptance.{Accepted, Suits}
use Rattle.labelling_laws.proofs.Acceptance.{suits}
use Rattle.labelling_laws.specs.OneBlock.{Fit}
use Rattle.labelling_laws.proofs.Arcs.{blocks_fit}
use Rattle.engine.specs.declared.blocks.Tables.{Tables}
use Rattle.engine.specs.Labeller.Begins.{tables_for}
use Rattle.engine.specs.Labeller.ArcWords.{arc_word, lent_arc, Traced}

-- the number of the first block of piece d, from 0
unfoldable pub first_of : List Piece → ℕ → ℕ
first_of qs d = length (blocks (take d qs))

-- piece d of the tables is the piece q, and from block `first` on stand its blocks
pub record MappedPiece (t : Tables) (bs : List Block) (first d : ℕ) (q : Piece) : Type 0 where
  pub small : size_of q ≤ max_size
  pub apart : Different q.vertices
  pub size_is : size_in t.numbers d ≡ size_of q
  pub blocks_in : first + 2 * pred (size_of q) ≤ length bs
  pub blocks_are : (j : ℕ) → j < 2 * pred (size_of q) → get_or bs (first + j) no_block ≡ block_of (suc d) q (get_or (windows_of (size_of q)) j no_window)
  pub rows_at : (j : ℕ) → j < 2 * pred (size_of q) → row_in t.numbers (first + j) ≡ row_places * d + (get_or (windows_of (size_of q)) j no_window).row0
  pub vertex_is : (i : ℕ) → i < size_of q → get_or q.vertices i 0 ≡ vertex_in t.numbers (row_places * d + i)

-- v stands at place x of all pieces
pub record StandsIn (qs : List Piece) (v x : ℕ) : Type 0 where
  pub piece_in_lem : x / row_places < length qs
  pub place_in : x - row_places * (x / row_places) < size_of (get_or qs (x / row_places) no_piece)
  pub vertex : get_or (get_or qs (x / row_places) no_piece).vertices (x - row_places * (x / row_places)) 0 ≡ v

-- a word is 1 + the first place of v in the pieces from piece d on, or 0 if there is none
pub record NextIn (qs : List Piece) (v d word : ℕ) : Type 0 where
  pub there : (x : ℕ) → word ≡ suc x → (d ≤ x / row_places) × StandsIn qs v x
  pub least : (y : ℕ) → d ≤ y / row_places → StandsIn qs v y → (1 ≤ word) × (word ≤ suc y)

pub record Mapped (t : Tables) (qs : List Piece) : Type 0 where
  pub few : length qs ≤ max_pieces
  pub numbers_in_lem : length t.numbers ≡ table_count
  pub each : (d : ℕ) → d < length qs → MappedPiece t (blocks qs) (first_of qs d) d (get_or qs d no_piece)
  pub firsts_are : (d : ℕ) → d < length qs → first_in t.numbers d ≡ first_of qs d
  pub first_next : (d : ℕ) → d < length qs → first_of qs (suc d) ≡ first_of qs d + 2 * pred (size_of (get_or qs d no_piece))
  -- the places of a vertex, linked
  pub starts : (v : ℕ) → 1 ≤ v → v ≤ max_vertices → NextIn qs v 0 (start_in t.numbers v)
  pub nexts : (v x : ℕ) → 1 ≤ v → v ≤ max_vertices → StandsIn qs v x → NextIn qs v (x / row_places + 1) (next_in t.numbers x)
  -- the rows and the columns of a block
  pub rows_differ : (b : ℕ) → b < length (blocks qs) → Different (get_or (blocks qs) b no_block).rows
  pub rows_are : (b r : ℕ) → b < length (blocks qs) → r < length (get_or (blocks qs) b no_block).rows
      → get_or (get_or (blocks qs) b no_block).rows r 0 ≡ vertex_in t.numbers (row_in t.numbers b + r)
  pub cols_are : (b c : ℕ) → b < length (blocks qs) → c < length (get_or (blocks qs) b no_block).cols
      → (c ≤ last_in t.numbers b) × (last_in t.numbers b < vertex_places) × (get_or (get_or (blocks qs) b no_block).cols c 0 ≡ vertex_in t.numbers (last_in t.numbers b - c))

pub first_none : (qs : List Piece) → first_of qs 0 ≡ 0
unfolding first_of blocks blocks_from
first_none qs = refl

pub first_all : (qs : List Piece) → first_of qs (length qs) ≡ length (blocks qs)
unfolding first_of
first_all qs = rw (take-length qs)

-- ---- what is prepared from a lent network

blocks_rise : (p : ℕ) (sizes : List ℕ) (d k : ℕ) → blocks_up_to p sizes d ≤ blocks_up_to p sizes (k + d)
unfolding blocks_up_to
blocks_rise p sizes d zero = let e : 0 + d ≡ d = omega arith in rw e (le_refl (blocks_up_to p sizes d))
blocks_rise p sizes d (suc k) = let e : suc k + d ≡ suc (k + d) = omega arith in rw e (omega (arith, blocks_rise p sizes d k))

module _ (n p : ℕ) (sizes vertices lengths : List ℕ) (source : ℕ) (fits : Fits p sizes vertices) (ok : Accepted n (pieces_of p sizes vertices lengths) source) where
  abbrev qs : List Piece
  qs = pieces_of p sizes vertices lengths

  pieces_count : length qs ≡ p
  unfolding pieces_of
  pieces_count = simp (length-map, length_up_from)

  piece_is : (d : ℕ) → d < p → get_or qs d no_piece ≡ piece_at sizes vertices lengths d
  unfolding pieces_of
  piece_is d l = get_or_each (piece_at sizes vertices lengths) p d no_piece l

  size_of_lem : (d : ℕ) → d < p → size_of (get_or qs d no_piece) ≡ size_at p sizes d
  size_of_lem d l = rw (piece_is d l) (size_of_is p sizes vertices lengths fits d l)

  suited : (d : ℕ) → d < p → Suits n (get_or qs d no_piece)
  suited d l = every_at (Suits n) qs (suits n qs ok.pieces_pass) d no_piece (omega (arith, pieces_count))

  number : (b : ℕ) → b < length (blocks qs) → b < length (placements_of p sizes)
  number b l = omega (arith, block_count p sizes vertices lengths fits)

  blocks_fill : (d : ℕ) → d < p → blocks_up_to p sizes d + 2 * pred (size_at p sizes d) ≤ length (blocks qs)
  unfolding blocks_up_to placements_of
  blocks_fill d l =
      let e : (max_pieces - suc d) + suc d ≡ max_pieces = omega (arith, fits.pieces_in) in
      omega (arith, rw e at (blocks_rise p sizes (suc d) (max_pieces - suc d)), block_count p sizes vertices lengths fits, length_up_to p sizes max_pieces)

  last_high : (b : ℕ) → b < length (blocks qs) → last_in (parts_of p sizes) b < vertex_places
  last_high b l =
      let h = placed p sizes fits.pieces_in b (number b l) in
      let few = size_small p sizes (get_or (placements_of p sizes) b no_placement).piece in
      omega (arith, last_is p sizes b (number b l), h.some, h.inside.cols_in_lem, h.piece_in_lem, fits.pieces_in)

  numbers : (b : ℕ) → b < length (blocks qs) → NumbersSame (tables_of p sizes vertices) (parts_of p sizes) b
  numbers b l = numbers_same p sizes vertices b (omega (arith, the_count p sizes vertices lengths fits))

  abbrev t : Tables
  t = tables_for p sizes vertices lengths

  piece_mapped : (d : ℕ) → d < p → MappedPiece t (blocks qs) (first_of qs d) d (get_or qs d no_piece)
  unfolding first_of
  piece_mapped d l =
      let few : d < max_pieces = omega (arith, fits.pieces_in) in
      let first : length (blocks (take d qs)) ≡ blocks_up_to p sizes d = sym (first_is p sizes vertices lengths fits d (omega arith)) in
      let m : size_of (get_or qs d no_piece) ≡ size_at p sizes d = size_of_lem d l in
      let fill = blocks_fill d l in
      let small : size_at p sizes d ≤ max_size = size_small p sizes d in
      rw first (record {
        small = (suited d l).size_high;
        apart = (suited d l).vertices_differ;
        size_is = size_in_lem p sizes vertices d few ∙ sym m;
        blocks_in = rw m fill;
        blocks_are = λ j x. rw m (block_of_lem p sizes vertices lengths fits d j l (rw m at x));
        rows_at = λ j x. let y : j < 2 * pred (size_at p sizes d) = rw m at x in rw (m, (numbers (blocks_up_to p sizes d + j) (omega arith)).row) (row_at p sizes d j few y);
        vertex_is = λ i x.
            let y : i < size_at p sizes d = rw m at x in
            rw (piece_is d l, vertex_in_lem p sizes vertices (row_places * d + i) (omega arith)) (vertex_at p sizes vertices lengths fits d l i y);
      })

  -- ---- the places of a vertex

  used_in : (d i : ℕ) → i < size_at p sizes d → d < p
  unfolding size_at
  used_in d i l = go (truth (ltb d p)) l
    where
      go : Truth (ltb d p) → i < cond (ltb d p && leb (get_or sizes d 0) max_size) (get_or sizes d 0) 0 → d < p
      go (holds t) r = ltb-true d p t
      go (fails t) r = absurd (omega (arith, rw t at r))

  to_pieces : (v x : ℕ) → StandsAt p sizes vertices v x → StandsIn qs v x
  to_pieces v x s =
      let d : ℕ = x / row_places in
      let i : ℕ = x - row_places * (x / row_places) in
      let l : x / row_places < p = used_in d i s.used in
      let e : row_places * (x / row_places) + (x - row_places * (x / row_places)) ≡ x = omega arith in
      record {
        piece_in_lem = omega (arith, pieces_count);
        place_in = rw (size_of_lem d l) s.used;
        vertex = rw (piece_is d l) (vertex_at p sizes vertices lengths fits d l i s.used) ∙ ap (λ (k : ℕ). get_or vertices k 0) e ∙ s.vertex;
      }

  from_pieces : (v x : ℕ) → StandsIn qs v x → StandsAt p sizes vertices v x
  from_pieces v x s =
      let d : ℕ = x / row_places in
      let i : ℕ = x - row_places * (x / row_places) in
      let l : x / row_places < p = omega (arith, s.piece_in_lem, pieces_count) in
      let e : row_places * (x / row_places) + (x - row_places * (x / row_places)) ≡ x = omega arith in
      let r : x - row_places * (x / row_places) < size_at p sizes (x / row_places) = rw (size_of_lem d l) at s.place_in in
      record {
        inside = omega (arith, fits.pieces_in);
        used = r;
        vertex = ap (λ (k : ℕ). get_or vertices k 0) (sym e) ∙ sym (vertex_at p sizes vertices lengths fits d l i r) ∙ (rw (piece_is d l) at s.vertex);
      }

  -- a vertex stands in a piece once
  later : (v x y : ℕ) → StandsIn qs v x → StandsIn qs v y → suc x ≤ y → x / row_places + 1 ≤ y / row_places
  unfolding size_of
  later v x y s r l = ⊎_elim (λ (h : x / row_places < y / row_places). omega arith) (λ (h : y / row_places ≤ x / row_places). absurd (same h)) (split_at (x / row_places) (y / row_places))
    where
      same : y / row_places ≤ x / row_places → ⊥
      same h =
          let e : y / row_places ≡ x / row_places = omega arith in
          let d : ℕ = x / row_places in
          let q = get_or qs (x / row_places) no_piece in
          let inside : y - row_places * (x / row_places) < length (get_or qs (x / row_places) no_piece).vertices = rw e at r.place_in in
          let here : get_or (get_or qs (x / row_places) no_piece).vertices (y - row_places * (x / row_places)) 0 ≡ v = rw e at r.vertex in
          omega (arith, different_at q.vertices (suited d (omega (arith, s.piece_in_lem, pieces_count))).vertices_differ (x - row_places * d) (y - row_places * d) s.place_in inside (s.vertex ∙ sym here))

  from_start : (v : ℕ) → 1 ≤ v → v ≤ max_vertices → NextIn qs v 0 (start_in t.numbers v)
  from_start v a b =
      let h = first_place p sizes vertices v a b in
      record { there = λ x e. (omega arith, to_pieces v x (h.there x e).1); least = λ y r s. h.least y (omega arith) (from_pieces v y s) }

  from_place : (v x : ℕ) → 1 ≤ v → v ≤ max_vertices → StandsIn qs v x → NextIn qs v (x / row_places + 1) (next_in t.numbers x)
  from_place v x a b s =
      let h = next_place p sizes vertices v x a b (from_pieces v x s) in
      record {
        there = λ y e. let r = h.there y e in (later v x y s (to_pieces v y r.1) r.0, to_pieces v y r.1);
        least = λ y r g. h.least y (omega arith) (from_pieces v y g);
      }

  -- the word of each entry of the blocks
  pub traced : Traced (lent_arc vertices lengths) t.numbers (blocks qs)
  unfolding lent_arc arc_at
  traced b r c l x y =
      let row = row_in (parts_of p sizes) b + r in
      let col = last_in (parts_of p sizes) b - c in
      let wide : c < cols_in (parts_of p sizes) b = omega (arith, cols_are p sizes vertices lengths fits b (number b l)) in
      let a : row < vertex_places = omega (arith, (the_window p sizes vertices lengths fits b l).0) in
      let d : col < vertex_places = omega (arith, last_high b l) in
      let tail : arc_word row col / vertex_places ≡ row = omega arith in
      let head : arc_word row col - vertex_places * row ≡ col = omega arith in
      let one = block_places p sizes vertices lengths fits b (number b l) r c x wide in
      rw ((numbers b l).row, (numbers b l).last) (
        rw (
          tail,
          head,
          row_vertex_is p sizes vertices lengths fits b (number b l) r x,
          column_is p sizes vertices lengths fits b (number b l) c wide,
          block_piece p sizes vertices lengths fits b (number b l) r x,
          block_length p sizes vertices lengths fits b (number b l) r c x wide,
        ),
        record { small = omega arith; from_piece = rw (tail, head) one.0; in_piece = rw (tail, head) one.1 },
      )

  pub mapped : Mapped t qs
  unfolding first_of blocks_up_to firsts_of
  mapped = record {
    few = omega (arith, pieces_count, fits.pieces_in);
    numbers_in_lem = tables_count p sizes vertices;
    each = λ d l. piece_mapped d (rw pieces_count at l);
    firsts_are = λ d l.
        let m : d < p = rw pieces_count at l in
        first_in_lem p sizes vertices d (omega (arith, fits.pieces_in)) ∙ firsts_are p sizes d (omega (arith, fits.pieces_in)) ∙ first_is p sizes vertices lengths fits d (omega arith);
    first_next = λ d l.
        let m : d < p = rw pieces_count at l in
        omega (arith, first_is p sizes vertices lengths fits d (omega arith), first_is p sizes vertices lengths fits (suc d) (omega arith), size_of_lem d m);
    starts = from_start;
    nexts = from_place;
    rows_differ = λ b l. (every_at (Fit n) (blocks qs) (blocks_fit n qs (suits n qs ok.pieces_pass)) b no_block l).rows_differ;
    rows_are = λ b r l x.
        let w = the_window p sizes vertices lengths fits b l in
        rw ((numbers b l).row, vertex_in_lem p sizes vertices (row_in (parts_of p sizes) b + r) (omega (arith, w.0))) (row_vertex_is p sizes vertices lengths fits b (number b l) r x);
    cols_are = λ b c l x.
        let wide : c < cols_in (parts_of p sizes) b = omega (arith, cols_are p sizes vertices lengths fits b (number b l)) in
        let last = last_is p sizes b (number b l) in
        let cols = cols_is p sizes b (number b l) in
        let high = last_high b l in
        rw (numbers b l).last (
          omega (arith, last, cols),
          high,
          rw (vertex_in_lem p sizes vertices (last_in (parts_of p sizes) b - c) (omega arith)) (column_is p sizes vertices lengths fits b (number b l) c wide),
        );
  }
