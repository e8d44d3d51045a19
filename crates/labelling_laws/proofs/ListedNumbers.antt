-- Nine columns hold the four numbers of a listing's first line, and every label.
--   written_digits         a number that they hold is written by its digits
--   weight_most            the weight is at most 24·24 for each piece
--   counts_held labels_held   the four numbers, and the labels
use Rattle.std.specs.Prelude.{◌≡◌, List, [], ◌∷◌, ℕ, zero, suc, ◌+◌, ◌*◌, ◌/◌, ◌≤◌, length}
use Rattle.std.proofs.Math.Option.{some}
use Rattle.std.proofs.Common.{le_refl, mul-le-mul, arith, le-leb}
use Rattle.logic.specs.Tests.{Order, less, more, order}
use Rattle.definitions.specs.Limits.{max_pieces, max_size, column_bytes, label_places}
use Rattle.definitions.specs.Lists.{Every, total}
use Rattle.definitions.specs.Network.{Piece, size_of}
use Rattle.definitions.specs.Blocks.{logarithm_from, logarithm, blocks, weight}
use Rattle.definitions.specs.Labelling.{label_of, labelling, reached, extractions, insertions}
use Rattle.definitions.specs.Fields.{max_column, decimal, right_justified, nine_columns}
use Rattle.definitions.proofs.Laws.CauseLaws.{bounds_in, source_in}
use Rattle.basics.specs.ListLaws.{count_le}
use Rattle.labelling_laws.specs.Acceptance.{Accepted, Suits}
use Rattle.labelling_laws.proofs.Acceptance.{suits}
use Rattle.labelling_laws.proofs.PieceBlocks as network

-- `-` is for a number that they do not hold
pub written_digits : (x : ℕ) → x ≤ max_column → nine_columns x ≡ right_justified column_bytes (decimal x)
unfolding nine_columns
written_digits x h = rw (le-leb x max_column (omega (arith, h)))

-- ---- the weight

logarithm_most : (fuel m : ℕ) → logarithm_from fuel m ≤ fuel
unfolding logarithm_from
logarithm_most zero m = le_refl 0
logarithm_most (suc fuel) m = go (order m 2) (logarithm_most fuel ((m + 1) / 2))
  where
    go : Order m 2 → logarithm_from fuel ((m + 1) / 2) ≤ fuel → logarithm_from (suc fuel) m ≤ suc fuel
    go (less t l) ih = rw (t, logarithm_from) (omega arith)
    go (more t l) ih = rw (t, logarithm_from) (omega arith)

piece_most : (n : ℕ) (q : Piece) → Suits n q → size_of q * logarithm (size_of q) ≤ max_size * max_size
unfolding logarithm
piece_most n q s =
    let few : logarithm_from (size_of q) (size_of q) ≤ max_size = omega (arith, logarithm_most (size_of q) (size_of q), s.size_high) in
    mul-le-mul s.size_high few

weight_most : (n : ℕ) (qs : List Piece) → Every (Suits n) qs → weight qs ≤ length qs * (max_size * max_size)
unfolding weight total
weight_most n [] s = le_refl 0
weight_most n (q ∷ qs) s = omega (arith, piece_most n q s.0, weight_most n qs s.1)

-- ---- the numbers of a listing

module _ (n : ℕ) (pieces : List Piece) (source : ℕ) (ok : Accepted n pieces source) where
  pub counts_held : Every (λ x. x ≤ max_column)
      (source ∷ reached (labelling (blocks pieces) source) ∷ extractions (labelling (blocks pieces) source) ∷ insertions (labelling (blocks pieces) source) ∷ [])
  counts_held =
      let few = bounds_in n (length pieces) ok.bounds in
      let weighs : weight pieces ≤ max_pieces * (max_size * max_size) = omega (arith, weight_most n pieces (suits n pieces ok.pieces_pass), few.1) in
      let places : reached (labelling (blocks pieces) source) ≤ label_places = rw (network.reached_count n pieces source ok) (count_le _ label_places) in
      let first : source ≤ max_column = omega (arith, (source_in n source ok.source_passes).1, few.0) in
      let second : reached (labelling (blocks pieces) source) ≤ max_column = omega arith in
      let third : extractions (labelling (blocks pieces) source) ≤ max_column = omega (arith, network.extractions_weight n pieces source ok) in
      let fourth : insertions (labelling (blocks pieces) source) ≤ max_column = omega (arith, network.insertions_held n pieces source ok) in
      (first, (second, (third, (fourth, tt))))

  pub labels_held : (v l : ℕ) → label_of v (labelling (blocks pieces) source).settled ≡ some l → l ≤ max_column
  labels_held v l h = omega (arith, network.labels_limited n pieces source ok v l h)
