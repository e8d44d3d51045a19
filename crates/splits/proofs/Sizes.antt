-- The splits of a size, in the list of all.
--   first_small      where a size begins
--   cut_at           each is cut between two of its places, and all of them are below the size
--   split_is         split s of the size, read from the numbers of the list
use Rattle.std.specs.Prelude.{◌≡◌, refl, Bool, true, ◌&&◌, List, ℕ, suc, pred, ◌+◌, ◌≤◌, ◌<◌, ltb, leb, get_or}
use Rattle.std.proofs.Common.{ap, ◌∙◌, sub-one, arith, ltb-true, leb-true}
use Rattle.definitions.specs.Limits.{max_size}
use Rattle.definitions.specs.Lists.{all, every, within}
use Rattle.definitions.specs.Blocks.{Split, splits, splits_of, splits_up_to, all_splits}
use Rattle.definitions.proofs.Laws.Members.{every_is, all_at}
use Rattle.logic.specs.Tests.{and_left, and_right}
use Rattle.basics.specs.ListLaws.{every_at}
use Rattle.splits.specs.declared.Split as code
use Rattle.splits.specs.Table.{flattened, no_split, split_of, split_in, first_split}
use Rattle.splits.proofs.Halving.{size_count, split_read, split_of_lem}
use Rattle.splits.specs.Sizes.{Cut}

unfoldable cut : ℕ → Split → Bool
cut m c = ltb c.first c.middle && (ltb c.middle c.end && leb c.end m)

cut_is : (m : ℕ) (c : Split) → cut m c ≡ true → Cut m c
unfolding cut
cut_is m c h =
    let r = and_right (ltb c.first c.middle) (ltb c.middle c.end && leb c.end m) h in
    record {
      before = ltb-true _ _ (and_left (ltb c.first c.middle) _ h);
      after = ltb-true _ _ (and_left (ltb c.middle c.end) (leb c.end m) r);
      inside = leb-true _ _ (and_right (ltb c.middle c.end) (leb c.end m) r);
    }

-- ---- computed, for all sizes up to 24

cuts_tested : all (λ m. every (cut m) (splits_of m)) (suc max_size) ≡ true
unfolding all every cut splits_of splits
cuts_tested = refl

first_tested : all (λ m. leb (first_split m) 276) (suc max_size) ≡ true
unfolding all first_split within splits_up_to splits_of splits all_splits
first_tested = refl

-- ---- of each size

module _ (m : ℕ) (small : m ≤ max_size) where
  pub first_small : first_split m ≤ 276
  first_small = leb-true _ _ (all_at (λ m. leb (first_split m) 276) (suc max_size) first_tested m (omega arith))

  pub cut_at : (s : ℕ) → s < pred m → Cut m (get_or (splits_of m) s no_split)
  cut_at s l =
      every_at (Cut m) (splits_of m) (every_is (cut m) (Cut m) (cut_is m) (splits_of m) (all_at (λ m. every (cut m) (splits_of m)) (suc max_size) cuts_tested m (omega arith)))
      s no_split (omega (arith, size_count m small))

  pub split_is : (list : List ℕ) (begin s : ℕ) (c : code.Split) → s < pred m → list ≡ flattened all_splits → begin ≡ first_split m → c ≡ split_in list (begin + s)
      → split_of c ≡ get_or (splits_of m) s no_split
  split_is list begin s c l e f h =
      ap split_of (h ∙ rw (e, f) (split_read all_splits (first_split m + s))) ∙ split_of_lem m s (omega (arith, sub-one m)) small l
