-- Laws of the blocks of all pieces by places.
--   size_small                                 a size is at most 24
--   length_piece length_up_to blocks_next blocks_few   how many blocks there are
--   piece_words_lem words_few                      how many words their heaps have
use Rattle.std.specs.Prelude.{◌≡◌, true, cond, ◌&&◌, List, [], ◌∷◌, map, leb, ltb, get_or, length}
use Rattle.std.proofs.Math.Path.{refl}
use Rattle.std.proofs.Common.{◌∙◌, add-one, leb-true}
use Prim.Native.Nat.{ℕ, zero, suc, pred, ◌+◌, ◌*◌, ◌≤◌}
use native.Mathlib.Omega.{arith}
use Rattle.std.proofs.Math.ListN.{length-append}
use Rattle.std.proofs.lemmas.List.{length-map}
use Rattle.definitions.specs.Limits.{max_size}
use Rattle.definitions.specs.Lists.{all, total}
use Rattle.definitions.specs.Blocks.{splits, splits_of, Window, windows, windows_of}
use Rattle.logic.specs.Tests.{and_right, Truth, holds, fails, truth}
use Rattle.definitions.proofs.Laws.Members.{all_at}
use Rattle.splits.proofs.Halving.{size_count}
use Rattle.preparation.specs.Prepared.{size_at, place, piece_placements, placements_up_to, words, words_of, piece_blocks, piece_words, blocks_up_to}
use Rattle.preparation.specs.Numbers.{length_windows, words_append}

pub size_small : (p : ℕ) (sizes : List ℕ) (d : ℕ) → size_at p sizes d ≤ max_size
unfolding size_at
size_small p sizes d = go (truth (ltb d p && leb (get_or sizes d 0) max_size))
  where
    go : Truth (ltb d p && leb (get_or sizes d 0) max_size) → cond (ltb d p && leb (get_or sizes d 0) max_size) (get_or sizes d 0) 0 ≤ max_size
    go (holds t) = rw t (leb-true _ _ (and_right (ltb d p) (leb (get_or sizes d 0) max_size) t))
    go (fails t) = rw t (omega arith)

-- ---- how many

pub length_windows_of : (m : ℕ) → m ≤ max_size → length (windows_of m) ≡ 2 * pred m
unfolding windows_of
length_windows_of m l = length_windows (splits_of m) ∙ rw (size_count m l)

pub length_piece : (d m : ℕ) → m ≤ max_size → length (piece_placements d m) ≡ 2 * pred m
unfolding piece_placements
length_piece d m l = length-map (windows_of m) (place d) ∙ length_windows_of m l

-- the heaps do not depend on the piece's number
same : (d m : ℕ) → words_of (piece_placements d m) ≡ words_of (piece_placements 0 m)
unfolding words_of piece_placements total
same d m = go (windows_of m)
  where
    go : (ws : List Window) → total (map words (map (place d) ws)) ≡ total (map words (map (place 0) ws))
    go [] = refl
    go (w ∷ ws) = rw (total, go ws)

words_tested : all (λ m. leb (words_of (piece_placements 0 m)) piece_words) (suc max_size) ≡ true
unfolding all words_of piece_placements windows_of windows splits_of splits total
words_tested = refl

pub piece_words_lem : (d m : ℕ) → m ≤ max_size → words_of (piece_placements d m) ≤ piece_words
piece_words_lem d m l = rw (same d m) (leb-true _ _ (all_at (λ m. leb (words_of (piece_placements 0 m)) piece_words) (suc max_size) words_tested m (omega arith)))

module _ (p : ℕ) (sizes : List ℕ) where
  pub length_up_to : (d : ℕ) → length (placements_up_to p sizes d) ≡ blocks_up_to p sizes d
  unfolding placements_up_to blocks_up_to
  length_up_to zero = refl
  length_up_to (suc d) =
      length-append (placements_up_to p sizes d) (piece_placements d (size_at p sizes d))
      ∙ rw (length_up_to d, length_piece d (size_at p sizes d) (size_small p sizes d))

  -- the blocks of one piece more, as the loops count them
  pub blocks_next : (d b m n : ℕ) → m ≡ size_at p sizes d → n ≡ 2 * pred m → b ≡ blocks_up_to p sizes d → b + n ≡ blocks_up_to p sizes (d + 1)
  unfolding blocks_up_to
  blocks_next d b m n e f g = rw (add-one d, f, e, g)

  -- at most so many for each piece
  pub blocks_few : (d : ℕ) → blocks_up_to p sizes d ≤ piece_blocks * d
  unfolding blocks_up_to
  blocks_few zero = omega arith
  blocks_few (suc d) = omega (arith, blocks_few d, size_small p sizes d)

  pub words_few : (d : ℕ) → words_of (placements_up_to p sizes d) ≤ piece_words * d
  unfolding placements_up_to words_of total
  words_few zero = omega arith
  words_few (suc d) =
      omega (arith, words_few d, piece_words_lem d (size_at p sizes d) (size_small p sizes d), words_append (placements_up_to p sizes d) (piece_placements d (size_at p sizes d)))
