-- `fill_parts`: after d turns the blocks of the first d pieces are stored. The blocks and words that a piece has at most keep the numbers small.
use mathlib.Core.Path.{◌≡◌, refl, ap, ◌∙◌}
use mathlib.Core.List.{List}
use Prim.Native.Nat.{ℕ, ◌+◌, ◌≤◌}
use native.Mathlib.Numerals.{add-one}
use native.Mathlib.Omega.{arith}
use borrow.Author.Rules.{rules}
use lib.ListN.{length, replicate, length-replicate}
use Rattle.definitions.specs.Limits.{max_pieces}
use Rattle.preparation.specs.Prepared.{size_at, piece_placements, placements_up_to, placements_of, blocks_up_to, numbers_from, part_places, Stored, parts_of}
use Rattle.preparation.specs.Numbers.{stored_none, stored_more, length_numbers}
use Rattle.preparation.specs.Placements.{length_up_to, blocks_next, blocks_few, piece_words_lem}
use Rattle.preparation.proofs.TableLaws.{sets_fresh}
use Rattle.preparation.proofs.fill_parts.Goals as goal

module _ (p : ℕ) (sizes : List ℕ) where
  piece_more : (before mid out : List ℕ) (d b m slot next : ℕ) → m ≡ size_at p sizes d → b ≡ blocks_up_to p sizes d
      → Stored before mid 0 0 slot (placements_up_to p sizes d) → Stored mid out b slot next (piece_placements d m) → Stored before out 0 0 next (placements_up_to p sizes (d + 1))
  unfolding placements_up_to
  piece_more before mid out d b m slot next e f h q =
      let n : b ≡ 0 + length (placements_up_to p sizes d) = omega (arith, length_up_to p sizes d) in
      rw (add-one d) (stored_more before mid out 0 0 slot next (placements_up_to p sizes d) (piece_placements d (size_at p sizes d)) h (rw (n, e) at q))

  whole : (parts : List ℕ) (slot d : ℕ) → d ≡ max_pieces → Stored (replicate part_places 0) parts 0 0 slot (placements_up_to p sizes d) → parts ≡ parts_of p sizes
  unfolding parts_of placements_of
  whole parts slot d e h =
      let n : length (numbers_from 0 (placements_up_to p sizes d)) ≤ part_places =
      omega (arith, length_numbers 0 (placements_up_to p sizes d), length_up_to p sizes d, blocks_few p sizes d) in
      h.stored ∙ sets_fresh part_places (numbers_from 0 (placements_up_to p sizes d)) n ∙ rw e

pub loop-d-init : goal.loop-d-init
unfolding blocks_up_to placements_up_to
loop-d-init c =
    let fresh = c.requires in
    record { sized = ap length fresh ∙ length-replicate {A = ℕ} part_places 0; splits = search rules; blocks = refl; few = search rules; short = search rules; stored = stored_none _ _ _ }

pub loop-d-preserved : goal.loop-d-preserved
loop-d-preserved c =
    let l = c.loop-d in
    let a = c.args in
    let size = c.size_at-m.ensures in
    let stored = c.store_piece-slot.ensures in
    record {
      sized = search rules;
      splits = search rules;
      blocks = blocks_next a.p a.sizes.now _ _ _ _ size.0 c.block_count.ensures l.invariant.blocks;
      few = omega (arith, size.1, c.block_count.ensures);
      short = omega (arith, stored.end, piece_words_lem l.d _ size.1);
      stored = piece_more a.p a.sizes.now _ _ _ _ _ _ _ _ size.0 l.invariant.blocks l.invariant.stored stored;
    }

pub returns : goal.returns
returns c =
    let e : c.loop-d.d ≡ max_pieces = omega arith in
    whole c.args.p c.args.sizes.now _ _ c.loop-d.d e (rw c.requires at c.loop-d.invariant.stored)
