-- A buffer that takes `width` numbers at each place, from its front.
--   copied_sets                       numbers copied over a part of it
--   Front front_none front_next       what stands at the first k places, the rest as it was
--   front_length front_padded         its length, and a filler behind the front
--   length_answers answers_back       the answers
--   first_listed front_kept kept_padded    the kept intervals
use Rattle.std.specs.Prelude.{◌≡◌, refl, ℕ, suc, ◌+◌, ◌*◌, ◌-◌, ◌≤◌, length, take, drop, replicate}
use Rattle.std.proofs.Common.{sym, ap, ◌∙◌, zero-add, add-zero, mul-zero, mul-suc, add-one, arith, length-append, length-drop, drop_of_length-le, take_at, take_all, drop_at, length-take-le}
use mathlib.Core.List.{List, [], ◌∷◌, ◌++◌, map, map-append, flat_map, append-nil}
use borrow.Rule.Slice.PartMut.{put_mid}
use Rattle.std.proofs.lemmas.Slice.{put_mid-paste}
use Rattle.std.proofs.lemmas.List.Edits.{sets, sets-eq}
use Rattle.definitions.specs.Limits.{answer_size, interval_size, unused_interval}
use Rattle.definitions.specs.Lists.{up_from, padded}
use Rattle.definitions.specs.Model.{Answer}
use Rattle.definitions.specs.Entries.{answer_numbers, answer_at, answers_in, interval_numbers}
use Rattle.definitions.specs.HeapWords.{count_of, listed_at, listed_in}
use Rattle.basics.specs.Buffers.{flat_map_snoc, front_sets, front_full}
use Rattle.basics.specs.Sequences.{up_from_snoc, map_next}
use Rattle.engine.specs.Heap.Strides.{group_behind}
use Rattle.engine.specs.Heap.WordLaws.{Word, numbers_long}

-- numbers copied over those from a place on
pub copied_sets : (l xs copied : List ℕ) (at n : ℕ) → copied ≡ xs → n ≡ length xs → at + n ≤ length l → put_mid at (at + n - at) l copied ≡ sets l at xs
copied_sets l xs copied at n e long room =
    put_mid-paste at (at + n - at) l copied xs n e (omega arith) long ∙ rw (take_all n xs (omega arith), long) (sym (sets-eq xs l at (omega arith)))

-- the numbers xs are those of the first k places
pub record Front (width k : ℕ) (before xs now : List ℕ) : Type 0 where
  pub long : length xs ≡ width * k
  pub is : now ≡ xs ++ drop (width * k) before

module _ (width : ℕ) where
  pub front_none : (before : List ℕ) → Front width 0 before [] before
  front_none before = record { long = sym (mul-zero width); is = rw (mul-zero width) }

  pub front_next : (k : ℕ) (before xs now ys : List ℕ) → length ys ≡ width → Front width k before xs now → width * k + width ≤ length before
      → Front width (k + 1) before (xs ++ ys) (sets now (width * k) ys)
  front_next k before xs now ys e f h =
      let n : width * (k + 1) ≡ width * k + width = rw add-one (mul-suc width k) in
      record {
        long = omega (arith, length-append xs ys, f.long);
        is = rw (f.is, n) (rw e at (front_sets xs ys before (width * k) f.long (omega arith)));
      }

  pub front_length : (k : ℕ) (before xs now : List ℕ) → Front width k before xs now → width * k ≤ length before → length now ≡ length before
  front_length k before xs now f h = rw f.is (simp (length-append, length-drop) (omega (arith, f.long)))

  -- a filler behind the front, in the part that is lent for it
  pub front_padded : (k n : ℕ) (before xs now rest : List ℕ) (filler : ℕ) → Front width k before xs now → width * k ≤ length before → n ≡ length before - width * k
      → rest ≡ replicate (length (take n (drop (width * k) now))) filler → take (width * k) now ++ (rest ++ drop n (drop (width * k) now)) ≡ padded (length before) filler xs
  front_padded k n before xs now rest filler f h m e =
      let l : length (drop (width * k) before) ≡ n = length-drop (width * k) before ∙ sym m in
      rw (
        e,
        f.is,
        take_at xs (drop (width * k) before) (width * k) f.long,
        drop_at xs (drop (width * k) before) (width * k) f.long,
        length-take-le n (drop (width * k) before) (omega arith),
        drop_of_length-le (drop (width * k) before) {i = n} (omega arith),
        append-nil (replicate n filler),
        m,
      )
      (front_full (length before) filler xs (width * k) f.long)

-- the numbers of answers, and the answers that numbers say
pub length_answers : (xs : List Answer) → length (flat_map answer_numbers xs) ≡ answer_size * length xs
unfolding flat_map
length_answers [] = refl
length_answers (x ∷ xs) = omega (arith, length_answers xs)

pub answers_back : (xs : List Answer) (rest : List ℕ) → answers_in (flat_map answer_numbers xs ++ rest) (length xs) ≡ xs
unfolding answers_in answer_at up_from flat_map
answers_back [] rest = refl
answers_back (x ∷ xs) rest = ap (λ (l : List Answer). x ∷ l) (map_next (answer_at (answer_numbers x ++ behind)) (answer_at behind) later 0 (length xs) ∙ answers_back xs rest)
  where
    behind : List ℕ
    behind = flat_map answer_numbers xs ++ rest

    later : (j : ℕ) → answer_at (answer_numbers x ++ behind) (suc j) ≡ answer_at behind j
    later j =
        let h = group_behind answer_size (answer_numbers x) behind j in
        rw (simp add-zero at (h 0 refl), h 1 refl, h 2 refl)

-- the first k intervals of the words, with their bests
abbrev pub first_listed : List ℕ → ℕ → List ℕ
first_listed w k = flat_map interval_numbers (map (listed_at w) (up_from 0 k))

-- one interval more
pub front_kept : (w before now xs : List ℕ) (k : ℕ) → xs ≡ interval_numbers (listed_at w k) → Front interval_size k before (first_listed w k) now
    → interval_size * k + interval_size ≤ length before → Front interval_size (k + 1) before (first_listed w (k + 1)) (sets now (interval_size * k) xs)
front_kept w before now xs k e g h =
    let more : map (listed_at w) (up_from 0 (k + 1)) ≡ map (listed_at w) (up_from 0 k) ++ listed_at w k ∷ [] =
    rw (add-one k, up_from_snoc 0 k, zero-add k) (map-append (listed_at w) (up_from 0 k) (k ∷ [])) in
    rw (more, flat_map_snoc interval_numbers (map (listed_at w) (up_from 0 k)) (listed_at w k), e)
    (front_next interval_size k before (first_listed w k) now (interval_numbers (listed_at w k)) (numbers_long w k) g h)

-- all of them, and the filler of unused places
pub kept_padded : (w before now rest : List ℕ) (k n : ℕ) → Front interval_size k before (first_listed w k) now → k ≡ n → Word (count_of w) n
    → interval_size * n ≤ length before → length now ≡ length before
    → rest ≡ replicate (length (take (length now - interval_size * n) (drop (interval_size * n) now))) unused_interval
    → take (interval_size * n) now ++ (rest ++ drop (length now - interval_size * n) (drop (interval_size * n) now)) ≡ padded (length before) unused_interval (flat_map interval_numbers (listed_in w))
unfolding listed_in
kept_padded w before now rest k n f e c h m r =
    rw (← c.is) (front_padded interval_size n (length now - interval_size * n) before (first_listed w n) now rest unused_interval (rw e at f) h (omega arith) r)
