-- The list of splits: every entry is cut at half, the sizes follow each other, and where an entry is found.
--   halved                         the rule, at each entry
--   listed counted size_count      the list by sizes, and how many there are
--   split_read                     an entry read from the numbers of a list
--   first_split_lem split_of_lem           where a size begins, and its entries from there
use Rattle.std.specs.Prelude.{◌≡◌, refl, Bool, true, cond, ◌&&◌, ℕ, zero, suc, pred, ◌+◌, ◌-◌, ◌*◌, ◌/◌, ◌≤◌, ◌<◌, eqb, ltb, leb, get_or, length}
use Rattle.std.proofs.Common.{sym, ap, ◌∙◌, arith, eqb-true, leb-true, le-leb, get_or-append-add}
use mathlib.Core.List.{List, [], ◌∷◌, ◌++◌, flat_map, append-nil, append_assoc}
use Rattle.std.proofs.Math.ListN.{get_or-append, get_or-eq_default}
use Rattle.definitions.specs.Limits.{max_size}
use Rattle.definitions.specs.Lists.{all, every, up_from, within}
use Rattle.definitions.specs.Blocks.{Split, splits, splits_of, splits_up_to, all_splits}
use Rattle.definitions.proofs.Laws.Members.{every_is, all_at}
use Rattle.logic.specs.Tests.{and_left, and_right, Order, less, more, order}
use Rattle.basics.specs.ListLaws.{every_at}
use Rattle.splits.specs.Table.{flattened, places, no_split, three_at, split_in, first_split}
use Rattle.splits.specs.Halving.{Halved}

unfoldable rule : Split → Bool
rule c = leb (c.first + 2) c.end && (leb c.end max_size && eqb c.middle (c.first + (c.end - c.first) / 2))

rule_is : (c : Split) → rule c ≡ true → Halved c
unfolding rule
rule_is c h =
    let r = and_right (leb (c.first + 2) c.end) (leb c.end max_size && eqb c.middle (c.first + (c.end - c.first) / 2)) h in
    record {
      two = leb-true _ _ (and_left (leb (c.first + 2) c.end) _ h);
      fits = leb-true _ _ (and_left (leb c.end max_size) (eqb c.middle (c.first + (c.end - c.first) / 2)) r);
      half = eqb-true _ _ (and_right (leb c.end max_size) (eqb c.middle (c.first + (c.end - c.first) / 2)) r);
    }

-- ---- computed

rule_tested : every rule all_splits ≡ true
unfolding every rule all_splits splits_up_to splits_of splits
rule_tested = refl

pub counted : length all_splits ≡ 276
unfolding all_splits splits_up_to splits_of splits
counted = refl

pub listed : all_splits ≡ flat_map splits_of (up_from 1 max_size)
unfolding all_splits splits_up_to flat_map up_from
listed = simp (append_assoc, append-nil)

sizes_tested : all (λ m. eqb (length (splits_of m)) (pred m)) (suc max_size) ≡ true
unfolding all splits_of splits
sizes_tested = refl

begins_tested : all (λ k. eqb (length (splits_up_to k)) ((k * k - k) / 2)) max_size ≡ true
unfolding all splits_up_to splits_of splits
begins_tested = refl

-- ---- of each entry, of each size

pub halved : (k : ℕ) → k < 276 → Halved (get_or all_splits k no_split)
halved k l = every_at Halved all_splits (every_is rule Halved rule_is all_splits rule_tested) k no_split (rw counted l)

pub size_count : (m : ℕ) → m ≤ max_size → length (splits_of m) ≡ pred m
size_count m l = eqb-true _ _ (all_at (λ m. eqb (length (splits_of m)) (pred m)) (suc max_size) sizes_tested m (omega arith))

begins : (k : ℕ) → k < max_size → length (splits_up_to k) ≡ (k * k - k) / 2
begins k l = eqb-true _ _ (all_at (λ k. eqb (length (splits_up_to k)) ((k * k - k) / 2)) max_size begins_tested k l)

-- ---- an entry in the list's numbers

length_flattened : (cs : List Split) → length (flattened cs) ≡ 3 * length cs
unfolding flattened
length_flattened [] = refl
length_flattened (c ∷ cs) = omega (arith, length_flattened cs)

three_read : (cs : List Split) (k : ℕ) → k < length cs → three_at (flattened cs) k ≡ places (get_or cs k no_split)
unfolding flattened
three_read [] k l = absurd (omega arith)
three_read (c ∷ cs) zero l = refl
three_read (c ∷ cs) (suc k) l =
    let e : 3 * suc k ≡ suc (suc (suc (3 * k))) = (omega arith) in
    let e1 : 3 * suc k + 1 ≡ suc (suc (suc (3 * k + 1))) = (omega arith) in
    let e2 : 3 * suc k + 2 ≡ suc (suc (suc (3 * k + 2))) = (omega arith) in
    rw (e1, e2, e) (three_read cs k (omega arith))

pub split_read : (cs : List Split) (k : ℕ) → split_in (flattened cs) k ≡ places (get_or cs k no_split)
unfolding split_in
split_read cs k = go (order k (length (flattened cs) / 3))
  where
    go : Order k (length (flattened cs) / 3) → cond (ltb k (length (flattened cs) / 3)) (three_at (flattened cs) k) (places no_split) ≡ places (get_or cs k no_split)
    go (less t l) = rw t (three_read cs k (omega (arith, length_flattened cs)))
    go (more t l) = rw (t, get_or-eq_default cs no_split {n = k} (omega (arith, length_flattened cs)))

-- ---- the entries of a size

first_is : (m : ℕ) → 1 ≤ m → m ≤ max_size → first_split m ≡ length (splits_up_to (pred m))
unfolding first_split within
first_is m l h = rw (le-leb 1 m l, le-leb m max_size h)

pub first_split_lem : (m : ℕ) → 1 ≤ m → m ≤ max_size → first_split m ≡ ((m - 1) * (m - 1) - (m - 1)) / 2
first_split_lem m l h = first_is m l h ∙ rw (pred_sub m) (begins (m - 1) (omega arith))
  where
    pred_sub : (m : ℕ) → pred m ≡ m - 1
    pred_sub zero = refl
    pred_sub (suc m) = omega arith

-- the splits of the d sizes after m
unfoldable after : ℕ → ℕ → List Split
after m zero = []
after m (suc d) = after m d ++ splits_of (suc (d + m))

up_to : (m d : ℕ) → splits_up_to (d + m) ≡ splits_up_to m ++ after m d
unfolding splits_up_to after
up_to m zero = let e : 0 + m ≡ m = omega arith in rw e (sym (append-nil (splits_up_to m)))
up_to m (suc d) = let e : suc d + m ≡ suc (d + m) = omega arith in rw (e, up_to m d) (append_assoc (splits_up_to m) (after m d) (splits_of (suc (d + m))))

pub split_of_lem : (m i : ℕ) → 1 ≤ m → m ≤ max_size → i < pred m → get_or all_splits (first_split m + i) no_split ≡ get_or (splits_of m) i no_split
unfolding all_splits splits_up_to
split_of_lem zero i l h k = absurd (omega arith)
split_of_lem (suc m) i l h k =
    let e : max_size ≡ (max_size - 1 - m) + suc m = omega arith in
    let f : splits_up_to max_size ≡ splits_up_to (suc m) ++ after (suc m) (max_size - 1 - m) = ap splits_up_to e ∙ up_to (suc m) (max_size - 1 - m) in
    rw (first_is (suc m) l h, f) (step m i (after (suc m) (max_size - 1 - m)) (omega (arith, size_count (suc m) h)))
  where
    step : (m i : ℕ) (rest : List Split) → i < length (splits_of (suc m))
        → get_or (splits_up_to (suc m) ++ rest) (length (splits_up_to m) + i) no_split ≡ get_or (splits_of (suc m)) i no_split
    step m i rest l =
        rw (append_assoc (splits_up_to m) (splits_of (suc m)) rest) (get_or-append-add (splits_up_to m) (splits_of (suc m) ++ rest) i no_split) ∙ get_or-append (splits_of (suc m)) rest no_split i l
