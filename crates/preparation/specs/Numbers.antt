-- Laws of the lists from which the numbers of the blocks are made.
--   sets_append                                  a run of stores in two parts
--   length_windows windows_append                two windows for each split
--   length_numbers numbers_append words_append   six numbers for each block, blocks after blocks
--   stored_none stored_more                      the stores of blocks, and of those that follow them
--   split_words_lem                                  the words of the two blocks of a split
--   placements_next placements_all               the blocks of the first splits of a piece
use Rattle.std.specs.Prelude.{◌≡◌, refl, List, [], ◌∷◌, ◌++◌, map, ℕ, suc, pred, ◌+◌, ◌*◌, ◌≤◌, ◌<◌, get_or, length, take}
use Rattle.std.proofs.Common.{ap, ◌∙◌, append_assoc, add-one, arith, take_all, length-take-le}
use Rattle.std.proofs.lemmas.List.{map-append, length-map}
use Rattle.std.proofs.lemmas.List.Edits.{sets}
use Rattle.std.proofs.Math.Seq.{take-suc}
use Rattle.definitions.specs.Limits.{max_size}
use Rattle.definitions.specs.Lists.{total}
use Rattle.definitions.specs.Blocks.{Split, splits_of, windows, windows_of}
use Rattle.basics.specs.ListLaws.{total_append}
use Rattle.splits.specs.Table.{no_split}
use Rattle.splits.proofs.Halving.{size_count}
use Rattle.splits.specs.Sizes.{Cut}
use Rattle.preparation.specs.Prepared.{Placement, place, split_placements, piece_placements, words, words_of, numbers, numbers_from, part_numbers, split_words, Stored}

pub sets_append : {A : Type 0} (xs ys l : List A) (i : ℕ) → sets l i (xs ++ ys) ≡ sets (sets l i xs) (i + length xs) ys
sets_append [] ys l i = let e : i + 0 ≡ i = omega arith in rw e
sets_append (x ∷ xs) ys l i = let e : i + suc (length xs) ≡ suc i + length xs = omega arith in rw e (sets_append xs ys _ (suc i))

pub length_windows : (cs : List Split) → length (windows cs) ≡ 2 * length cs
unfolding windows
length_windows [] = refl
length_windows (c ∷ cs) = omega (arith, length_windows cs)

pub windows_append : (cs ds : List Split) → windows (cs ++ ds) ≡ windows cs ++ windows ds
unfolding windows
windows_append [] ds = refl
windows_append (c ∷ cs) ds = rw (windows_append cs ds)

pub length_numbers : (slot : ℕ) (xs : List Placement) → length (numbers_from slot xs) ≡ part_numbers * length xs
unfolding numbers_from numbers
length_numbers slot [] = refl
length_numbers slot (x ∷ xs) = omega (arith, length_numbers (slot + words x) xs)

pub numbers_append : (slot : ℕ) (xs ys : List Placement) → numbers_from slot (xs ++ ys) ≡ numbers_from slot xs ++ numbers_from (slot + words_of xs) ys
unfolding numbers_from words_of total
numbers_append slot [] ys = let e : slot + 0 ≡ slot = omega arith in rw e
numbers_append slot (x ∷ xs) ys =
    let e : slot + (words x + total (map words xs)) ≡ slot + words x + total (map words xs) = omega arith in
    rw (e, append_assoc) (ap (λ (t : List ℕ). numbers slot x ++ t) (numbers_append (slot + words x) xs ys))

pub words_append : (xs ys : List Placement) → words_of (xs ++ ys) ≡ words_of xs + words_of ys
unfolding words_of
words_append xs ys = total_append words xs ys

-- nothing is stored for no block
pub stored_none : (l : List ℕ) (b slot : ℕ) → Stored l l b slot slot []
unfolding numbers_from words_of total
stored_none l b slot = record { stored = refl; end = omega arith }

-- the stores of blocks, and then of those that follow them
pub stored_more : (l mid out : List ℕ) (b slot next end : ℕ) (xs ys : List Placement) → Stored l mid b slot next xs → Stored mid out (b + length xs) next end ys
    → Stored l out b slot end (xs ++ ys)
stored_more l mid out b slot next end xs ys p q =
    let e : part_numbers * (b + length xs) ≡ part_numbers * b + length (numbers_from slot xs) = omega (arith, length_numbers slot xs) in
    record {
      stored =
          rw (numbers_append slot xs ys, sets_append (numbers_from slot xs) (numbers_from (slot + words_of xs) ys) l (part_numbers * b))
          (q.stored ∙ rw (p.stored, p.end, e));
      end = omega (arith, p.end, q.end, words_append xs ys);
    }

-- ---- the splits of a piece

module _ (m : ℕ) (small : m ≤ max_size) where
  pub split_words_lem : (d : ℕ) (c : Split) → Cut m c → words_of (split_placements d c) ≤ split_words
  unfolding words_of split_placements windows total
  split_words_lem d c h = omega (arith, h.before, h.after, h.inside)

  -- the blocks of the first s splits; the next one; all of them
  pub placements_next : (d s : ℕ) → s < pred m
      → map (place d) (windows (take (s + 1) (splits_of m))) ≡ map (place d) (windows (take s (splits_of m))) ++ split_placements d (get_or (splits_of m) s no_split)
  unfolding split_placements
  placements_next d s l =
      rw (add-one s, take-suc (splits_of m) s no_split (omega (arith, size_count m small)), windows_append) (map-append (place d) (windows (take s (splits_of m))) (windows (get_or (splits_of m) s no_split ∷ [])))

  pub placements_all : (d s : ℕ) → pred m ≤ s → map (place d) (windows (take s (splits_of m))) ≡ piece_placements d m
  unfolding piece_placements windows_of
  placements_all d s l = rw (take_all s (splits_of m) (omega (arith, size_count m small)))

  pub length_placements : (d s : ℕ) → s ≤ pred m → length (map (place d) (windows (take s (splits_of m)))) ≡ 2 * s
  length_placements d s l =
      length-map (windows (take s (splits_of m))) (place d) ∙ length_windows (take s (splits_of m)) ∙ rw (length-take-le s (splits_of m) (omega (arith, size_count m small)))
