-- The numbers of the blocks: which block of which piece a number means.
--   Fits                                 sizes within bounds, and a buffer of the vertices of its size
--   size_is size_none size_of_is          the size of a piece, by its definitions
--   block_at blocks_are                   the blocks of the network, by their placements
--   first_is                             the number of a piece's first block
--   number_in placement_at               block j of piece d
--   Numbered numbered                    every block is one of those
--   firsts_are                           what is returned for a piece is the number of its first block
use Rattle.std.specs.Prelude.{◌≡◌, ◌⊎◌, take}
use Rattle.std.proofs.Math.Path.{refl, sym, ap}
use Rattle.std.proofs.Common.{◌∙◌, inl, inr, le_refl}
use mathlib.Core.List.{List, [], ◌∷◌, ◌++◌, map, append-nil, append_assoc, map-append, map-map}
use Prim.Native.Nat.{ℕ, zero, suc, pred, ◌+◌, ◌-◌, ◌*◌, ◌≤◌, ◌<◌}
use native.Mathlib.Omega.{arith}
use borrow.Author.Tests.{lt-ltb, le-ltb, le-leb}
use Rattle.std.proofs.Math.ListN.{get_or, length, length-append, length-map, get_or-append}
use Rattle.std.proofs.Math.Seq.{get_or-append-add}
use Rattle.definitions.specs.Limits.{max_pieces, max_size, vertex_places}
use Rattle.definitions.specs.Lists.{up_from}
use Rattle.definitions.specs.Network.{Piece, size_of}
use Rattle.definitions.specs.Blocks.{splits, splits_of, Window, windows, windows_of, Block, block_of, blocks_of, blocks_from, blocks}
use Rattle.definitions.specs.Judgement.{piece_at, pieces_of}
use Rattle.logic.specs.Tests.{split_at}
use Rattle.basics.specs.Sequences.{length_up_from, up_from_snoc, get_or_each, map_at}
use Rattle.basics.specs.PiecePlaces.{piece_size}
use Rattle.preparation.specs.Prepared.{size_at, Placement, place, piece_placements, placements_up_to, placements_of, blocks_up_to, firsts_of}
use Rattle.preparation.specs.Placements.{size_small, length_windows_of, length_up_to}

-- ---- lists

-- the numbers from 0 on: one more; the first d images
up_from_next : (n : ℕ) → up_from 0 (suc n) ≡ up_from 0 n ++ (n ∷ [])
up_from_next n = let e : 0 + n ≡ n = omega arith in rw e at (up_from_snoc 0 n)

take_each : {A : Type 0} (f : ℕ → A) (s d n : ℕ) → d ≤ n → take d (map f (up_from s n)) ≡ map f (up_from s d)
unfolding up_from
take_each f s zero n l = refl
take_each f s (suc d) zero l = absurd (omega arith)
take_each f s (suc d) (suc n) l = rw (take_each f (suc s) d n (omega arith))

-- ---- sizes

pub record Fits (p : ℕ) (sizes vertices : List ℕ) : Type 0 where
  pub pieces_in : p ≤ max_pieces
  pub small : (d : ℕ) → d < p → get_or sizes d 0 ≤ max_size
  pub vertices_in : length vertices ≡ vertex_places

abbrev pub no_window : Window
no_window = record { row0 = 0; rows = 0; col0 = 0; cols = 0 }

abbrev pub no_placement : Placement
no_placement = place 0 no_window

pub size_none : (p : ℕ) (sizes : List ℕ) (d : ℕ) → p ≤ d → size_at p sizes d ≡ 0
unfolding size_at
size_none p sizes d l = rw (le-ltb d p l)

-- the block at a placement
abbrev pub block_at : List ℕ → List ℕ → List ℕ → Placement → Block
block_at sizes vertices lengths x = block_of (suc x.piece) (piece_at sizes vertices lengths x.piece) x.window

blocks_snoc : (d : ℕ) (qs : List Piece) (r : Piece) → blocks_from d (qs ++ r ∷ []) ≡ blocks_from d qs ++ blocks_of (d + length qs) r
unfolding blocks_from
blocks_snoc d [] r = let e : d + 0 ≡ d = omega arith in rw e (append-nil (blocks_of d r))
blocks_snoc d (q ∷ qs) r =
    let e : d + suc (length qs) ≡ suc d + length qs = omega arith in
    rw (e, blocks_snoc (suc d) qs r) (sym (append_assoc (blocks_of d q) (blocks_from (suc d) qs) (blocks_of (suc d + length qs) r)))

module _ (p : ℕ) (sizes vertices lengths : List ℕ) (fits : Fits p sizes vertices) where
  pub size_is : (d : ℕ) → d < p → size_at p sizes d ≡ get_or sizes d 0
  unfolding size_at
  size_is d l = rw (lt-ltb d p l, le-leb (get_or sizes d 0) max_size (fits.small d l))

  pub size_of_is : (d : ℕ) → d < p → size_of (piece_at sizes vertices lengths d) ≡ size_at p sizes d
  size_of_is d l = piece_size sizes vertices lengths d (fits.small d l) (omega (arith, fits.vertices_in, fits.pieces_in)) ∙ sym (size_is d l)

  -- ---- blocks by placements

  blocks_piece : (d : ℕ) → d < p → blocks_of (suc d) (piece_at sizes vertices lengths d) ≡ map (block_at sizes vertices lengths) (piece_placements d (size_at p sizes d))
  unfolding blocks_of piece_placements
  blocks_piece d l =
      rw (size_of_is d l) (sym (map-map (block_at sizes vertices lengths) (place d) (windows_of (size_at p sizes d))))

  blocks_up_to_lem : (d : ℕ) → d ≤ p → blocks (map (piece_at sizes vertices lengths) (up_from 0 d)) ≡ map (block_at sizes vertices lengths) (placements_up_to p sizes d)
  unfolding up_from blocks blocks_from placements_up_to
  blocks_up_to_lem zero l = refl
  blocks_up_to_lem (suc d) l =
      let q = piece_at sizes vertices lengths in
      let count : 1 + length (map q (up_from 0 d)) ≡ suc d = omega (arith, length-map (up_from 0 d) q, length_up_from 0 d) in
      ap (λ (ds : List ℕ). blocks (map q ds)) (up_from_next d)
      ∙ ap blocks (map-append q (up_from 0 d) (d ∷ []))
      ∙ blocks_snoc 1 (map q (up_from 0 d)) (q d)
      ∙ ap (λ (k : ℕ). blocks (map q (up_from 0 d)) ++ blocks_of k (q d)) count
      ∙ ap (λ (bs : List Block). bs ++ blocks_of (suc d) (q d)) (blocks_up_to_lem d (omega arith))
      ∙ ap (λ (bs : List Block). map (block_at sizes vertices lengths) (placements_up_to p sizes d) ++ bs) (blocks_piece d (omega arith))
      ∙ sym (map-append (block_at sizes vertices lengths) (placements_up_to p sizes d) (piece_placements d (size_at p sizes d)))

  -- the pieces from p on have none
  placements_end : (k : ℕ) → placements_up_to p sizes (k + p) ≡ placements_up_to p sizes p
  unfolding placements_up_to piece_placements windows_of windows splits_of splits
  placements_end zero = let e : 0 + p ≡ p = omega arith in rw e
  placements_end (suc k) =
      let e : suc k + p ≡ suc (k + p) = omega arith in
      rw (e, size_none p sizes (k + p) (omega arith)) (append-nil (placements_up_to p sizes (k + p)) ∙ placements_end k)

  pub blocks_are : blocks (pieces_of p sizes vertices lengths) ≡ map (block_at sizes vertices lengths) (placements_of p sizes)
  unfolding pieces_of placements_of
  blocks_are =
      let e : max_pieces ≡ (max_pieces - p) + p = omega (arith, fits.pieces_in) in
      blocks_up_to_lem p (le_refl p) ∙ ap (map (block_at sizes vertices lengths)) (sym (ap (placements_up_to p sizes) e ∙ placements_end (max_pieces - p)))

  -- ---- the first block of a piece

  pub first_is : (d : ℕ) → d ≤ p → blocks_up_to p sizes d ≡ length (blocks (take d (pieces_of p sizes vertices lengths)))
  unfolding pieces_of
  first_is d l =
      rw (take_each (piece_at sizes vertices lengths) 0 d p l, blocks_up_to_lem d l)
      (sym (length-map (placements_up_to p sizes d) (block_at sizes vertices lengths) ∙ length_up_to p sizes d))

-- ---- block j of piece d

module _ (p : ℕ) (sizes : List ℕ) where
  -- the first pieces, and those after them
  placements_after : (d k : ℕ) → (rest : List Placement) × (placements_up_to p sizes (k + d) ≡ placements_up_to p sizes d ++ rest)
  unfolding placements_up_to
  placements_after d zero = let e : 0 + d ≡ d = omega arith in ([], rw e (sym (append-nil (placements_up_to p sizes d))))
  placements_after d (suc k) =
      let e : suc k + d ≡ suc (k + d) = omega arith in
      let before = placements_after d k in
      let more = piece_placements (k + d) (size_at p sizes (k + d)) in
      (before.0 ++ more, rw (e, before.1) (append_assoc (placements_up_to p sizes d) before.0 more))

  pub number_in : (d j : ℕ) → d < max_pieces → j < 2 * pred (size_at p sizes d) → blocks_up_to p sizes d + j < length (placements_of p sizes)
  unfolding placements_of blocks_up_to
  number_in d j l r =
      let e : max_pieces ≡ (max_pieces - suc d) + suc d = omega arith in
      let after = placements_after (suc d) (max_pieces - suc d) in
      let n : length (placements_up_to p sizes max_pieces) ≡ length (placements_up_to p sizes (suc d)) + length after.0
      = ap length (ap (placements_up_to p sizes) e ∙ after.1) ∙ length-append (placements_up_to p sizes (suc d)) after.0 in
      omega (arith, n, length_up_to p sizes (suc d))

  placement_there : (d j : ℕ) (xs rest : List Placement) → j < length (windows_of (size_at p sizes d))
      → get_or ((xs ++ piece_placements d (size_at p sizes d)) ++ rest) (length xs + j) no_placement ≡ place d (get_or (windows_of (size_at p sizes d)) j no_window)
  unfolding piece_placements
  placement_there d j xs rest l =
      let ws = windows_of (size_at p sizes d) in
      let mine : List Placement = map (place d) ws in
      ap (λ (ys : List Placement). get_or ys (length xs + j) no_placement) (append_assoc xs mine rest)
      ∙ get_or-append-add xs (mine ++ rest) j no_placement
      ∙ get_or-append mine rest no_placement j (omega (arith, length-map ws (place d)))
      ∙ map_at (place d) ws j no_window no_placement l

  pub placement_at : (d j : ℕ) → d < max_pieces → j < 2 * pred (size_at p sizes d)
      → get_or (placements_of p sizes) (blocks_up_to p sizes d + j) no_placement ≡ place d (get_or (windows_of (size_at p sizes d)) j no_window)
  unfolding placements_of placements_up_to
  placement_at d j l r =
      let e : max_pieces ≡ (max_pieces - suc d) + suc d = omega arith in
      let after = placements_after (suc d) (max_pieces - suc d) in
      ap (λ (xs : List Placement). get_or xs (blocks_up_to p sizes d + j) no_placement) (ap (placements_up_to p sizes) e ∙ after.1)
      ∙ rw (← length_up_to p sizes d) (placement_there d j (placements_up_to p sizes d) after.0 (omega (arith, length_windows_of (size_at p sizes d) (size_small p sizes d))))

  -- what a block's number means: block `window` of piece `piece`
  pub record Numbered (b : ℕ) : Type 0 where
    pub piece : ℕ
    pub window : ℕ
    pub piece_in_lem : piece < p
    pub window_in_lem : window < 2 * pred (size_at p sizes piece)
    pub number : b ≡ blocks_up_to p sizes piece + window

  numbered_below : (b d : ℕ) → b < blocks_up_to p sizes d → Numbered b
  unfolding blocks_up_to
  numbered_below b zero l = absurd (omega arith)
  numbered_below b (suc d) l = go (λ h. numbered_below b d h) (split_at b (blocks_up_to p sizes d)) (split_at d p)
    where
      go : (b < blocks_up_to p sizes d → Numbered b) → (b < blocks_up_to p sizes d) ⊎ (blocks_up_to p sizes d ≤ b) → (d < p) ⊎ (p ≤ d) → Numbered b
      go before (inl h) s = before h
      go before (inr h) (inl s) = record { piece = d; window = b - blocks_up_to p sizes d; piece_in_lem = s; window_in_lem = omega arith; number = omega arith }
      go before (inr h) (inr s) = absurd (omega (arith, size_none p sizes d s))

  pub numbered : (b : ℕ) → b < length (placements_of p sizes) → Numbered b
  unfolding placements_of
  numbered b l = numbered_below b max_pieces (omega (arith, length_up_to p sizes max_pieces))

  pub firsts_are : (d : ℕ) → d < max_pieces → get_or (firsts_of p sizes) d 0 ≡ blocks_up_to p sizes d
  unfolding firsts_of
  firsts_are d l = get_or_each (blocks_up_to p sizes) max_pieces d 0 l
