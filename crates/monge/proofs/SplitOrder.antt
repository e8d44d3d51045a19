-- The splits of a size, one after the other, and the blocks of each.
--   both_blocks                       the two blocks of a split
--   in_order stopped went ended       a loop over the splits of a size: a turn, and its end
use mathlib.Core.Path.{◌≡◌, refl, ◌∙◌}
use mathlib.Core.Bool.{Bool, true, false, ◌&&◌, and-true}
use mathlib.Core.List.{List, [], ◌∷◌}
use Prim.Native.Nat.{ℕ, ◌+◌, ◌-◌, ◌≤◌, ◌<◌}
use native.Mathlib.Numerals.{add-one}
use native.Mathlib.Omega.{arith}
use lib.ListN.{get_or, length, drop, drop_of_length-le}
use lib.Seq.{drop-cons}
use Rattle.definitions.specs.Limits.{max_size}
use Rattle.definitions.specs.Lists.{every}
use Rattle.definitions.specs.Blocks.{Split, splits_of, all_splits, Window, windows, windows_of}
use Rattle.splits.specs.declared.Split as code
use Rattle.splits.specs.Table.{flattened, no_split, split_of, split_in, first_split}
use Rattle.splits.proofs.Halving.{size_count}
use Rattle.splits.specs.Sizes.{Cut}
use Rattle.splits.proofs.Sizes.{cut_at, split_is}
use Rattle.monge.specs.Matrix.{block_monge_in, passes_in}

pub both_blocks : (lengths : List ℕ) (c : Split)
    → every (passes_in lengths) (windows (c ∷ []))
    ≡ (block_monge_in lengths c.first c.middle (c.middle - c.first) (c.end - c.middle) && block_monge_in lengths c.middle c.first (c.end - c.middle) (c.middle - c.first))
unfolding every windows passes_in
both_blocks lengths c = rw and-true

regroup : (a b r : Bool) → (a && (b && r)) ≡ ((a && (b && true)) && r)
regroup true true r = refl
regroup true false r = refl
regroup false b r = refl

every_two : (p : Window → Bool) (a b : Window) (ws : List Window) → every p (a ∷ b ∷ ws) ≡ (every p (a ∷ b ∷ []) && every p ws)
unfolding every
every_two p a b ws = regroup (p a) (p b) (every p ws)

next_split : (p : Window → Bool) (cs : List Split) (j : ℕ) → j < length cs
    → every p (windows (drop j cs)) ≡ (every p (windows (get_or cs j no_split ∷ [])) && every p (windows (drop (j + 1) cs)))
unfolding windows
next_split p cs j l = rw (add-one j, drop-cons cs j no_split l) (every_two p _ _ _)

-- a turn of the loop: split j of size m, read from the list
module _ (m : ℕ) (high : m ≤ max_size) (list : List ℕ) (all_of : list ≡ flattened all_splits) (first : ℕ) (begins : first ≡ first_split m)
    (j : ℕ) (l : j + 1 < m) (c : code.Split) (read : c ≡ split_in list (first + j)) where
  listed : split_of c ≡ get_or (splits_of m) j no_split
  listed = split_is m high list first j c (omega arith) all_of begins read

  inside : j < length (splits_of m)
  inside = omega (arith, size_count m high)

  pub in_order : Cut m (split_of c)
  in_order = rw listed (cut_at m high j (omega arith))

  module _ (lengths : List ℕ) (e : every (passes_in lengths) (windows_of m) ≡ every (passes_in lengths) (windows (drop j (splits_of m)))) where
    pub stopped : every (passes_in lengths) (windows (split_of c ∷ [])) ≡ false → false ≡ every (passes_in lengths) (windows_of m)
    stopped h = rw (e, next_split (passes_in lengths) (splits_of m) j inside, ← listed, h)

    pub went : every (passes_in lengths) (windows (split_of c ∷ [])) ≡ true → every (passes_in lengths) (windows_of m) ≡ every (passes_in lengths) (windows (drop (j + 1) (splits_of m)))
    went h = e ∙ rw (next_split (passes_in lengths) (splits_of m) j inside, ← listed, h)

pub ended : (m : ℕ) → m ≤ max_size → (j : ℕ) → m ≤ j + 1 → drop j (splits_of m) ≡ []
ended m high j l = drop_of_length-le (splits_of m) {i = j} (omega (arith, size_count m high))
