-- Laws of the words of a heap, what is read from them and written to them.
--   word_end Word                              what a reader returns
--   span-.. length_span                       the intervals that the words hold
--   Marks marks_same marks_then               words that agree in what columns are reached
--   Outside                                   words that agree but for some intervals
--   interval_same numbers-.. head_set head_mark    an interval is read from its own words, which are its numbers
--   IntervalAt told told_is                   one interval is read
--   PutLeaves put_done                        one is written
--   ShiftLeaves ShiftKeeps moving-.. shifted  intervals are moved to other places, one by one
use Rattle.std.specs.Prelude.{◌≡◌, refl, List, ◌++◌, ◌⊎◌, ◌≢◌, ℕ, zero, suc, ◌+◌, ◌-◌, ◌≤◌, ◌<◌, length, get_or, set}
use Rattle.std.proofs.Common.{ap, ◌∙◌, inl, inr, ⊎_elim, zero-add, add-zero, arith, get_or-set_other}
use Rattle.std.proofs.lemmas.List.Edits.{sets}
use Rattle.std.proofs.Math.Seq.{length-sets}
use Rattle.definitions.specs.HeapWords.{count_of, reached_of, mark_at, parent_at, first_at, last_at, best_column_at, best_sum_at, interval_at, span, listed_at, count_word, reached_word, head_words, parent_word, first_word, last_word, best_column_word, best_sum_word, interval_words, mark_word, place_words, interval_start, heap_words}
use Rattle.definitions.specs.Best.{by}
use Rattle.definitions.specs.Intervals.{interval}
use Rattle.definitions.specs.Model.{Listed}
use Rattle.definitions.specs.Entries.{interval_numbers}
use Rattle.logic.specs.Tests.{split_at, Equal, equal, differ, equality}
use Rattle.engine.specs.Heap.Strides.{sets_before, stored_here, stored_other, stored_behind}
use Rattle.engine.specs.declared.heap.Interval as declared

-- one past the greatest word
abbrev pub word_end : ℕ
word_end = 4294967296

-- r is the word x
pub record Word (x r : ℕ) : Type 0 where
  pub is : r ≡ x
  pub fits : r < word_end

-- ---- spans

-- a span is determined by its intervals, from whatever place they lie
pub span_same : (w u : List ℕ) (i j n : ℕ) → ((k : ℕ) → k < n → listed_at w (i + k) ≡ listed_at u (j + k)) → span w i n ≡ span u j n
unfolding span
span_same w u i j zero h = refl
span_same w u i j (suc n) h =
    let q : interval_at w i ≡ interval_at u j = ap (λ (x : Listed). x.interval) (simp add-zero at (h 0 (omega arith))) in
    rw (
      q,
      span_same w u (suc i) (suc j) n (λ k l.
          let a : suc i + k ≡ i + suc k = omega arith in
          let b : suc j + k ≡ j + suc k = omega arith in
          rw (a, b) (h (suc k) (omega arith))),
    )

pub span_cut : (w : List ℕ) (i n m : ℕ) → span w i (n + m) ≡ span w i n ++ span w (i + n) m
unfolding span
span_cut w i zero m = rw (zero-add, add-zero)
span_cut w i (suc n) m =
    let a : suc n + m ≡ suc (n + m) = omega arith in
    let b : i + suc n ≡ suc i + n = omega arith in
    rw (a, b, span_cut w (suc i) n m)

pub length_span : (w : List ℕ) (i n : ℕ) → length (span w i n) ≡ n
unfolding span
length_span w i zero = refl
length_span w i (suc n) = ap suc (length_span w (suc i) n)

-- ---- writing

-- u says of the columns that are reached what w says
pub record Marks (u w : List ℕ) : Type 0 where
  pub number : reached_of u ≡ reached_of w
  pub each : (c : ℕ) → mark_at u c ≡ mark_at w c

pub marks_same : (w : List ℕ) → Marks w w
marks_same w = record { number = refl; each = λ c. refl }

pub marks_then : {w u v : List ℕ} → Marks v u → Marks u w → Marks v w
marks_then a b = record { number = a.number ∙ b.number; each = λ c. a.each c ∙ b.each c }

-- u is w but for the intervals at the places i up to, not including, j
pub record Outside (w u : List ℕ) (i j : ℕ) : Type 0 where
  pub long : length u ≡ length w
  pub counted : count_of u ≡ count_of w
  pub marked : Marks u w
  pub same : (k : ℕ) → (k < i) ⊎ (j ≤ k) → listed_at u k ≡ listed_at w k

-- the interval v is written at place i
pub record PutLeaves (w u : List ℕ) (i : ℕ) (v : Listed) : Type 0 where
  pub outside : Outside w u i (i + 1)
  pub here : listed_at u i ≡ v

-- what the program's struct says
abbrev pub told : declared.Interval → Listed
told v = record { interval = interval v.parent v.first v.last; best = by v.best_column v.best_sum }

-- r is the interval at place k
pub record IntervalAt (w : List ℕ) (k : ℕ) (r : declared.Interval) : Type 0 where
  pub parent_is : r.parent ≡ parent_at w k
  pub first_is : r.first ≡ first_at w k
  pub last_is : r.last ≡ last_at w k
  pub best_column_is : r.best_column ≡ best_column_at w k
  pub best_sum_is : r.best_sum ≡ best_sum_at w k

pub told_is : (w : List ℕ) (k : ℕ) (r : declared.Interval) → IntervalAt w k r → told r ≡ listed_at w k
unfolding interval_at
told_is w k r h = rw (h.parent_is, h.first_is, h.last_is, h.best_column_is, h.best_sum_is)

-- an interval is read from its words alone
pub interval_same : (u w : List ℕ) (j k : ℕ) → ((i : ℕ) → i < interval_words → get_or u (interval_start j + i) 0 ≡ get_or w (interval_start k + i) 0) → listed_at u j ≡ listed_at w k
unfolding interval_at parent_at first_at last_at best_column_at best_sum_at
interval_same u w j k h = rw (h parent_word (omega arith), h first_word (omega arith), h last_word (omega arith), h best_column_word (omega arith), h best_sum_word (omega arith))

-- its words are its numbers
numbers_read : (w : List ℕ) (k : ℕ) (v : declared.Interval) → ((i : ℕ) → i < interval_words → get_or w (interval_start k + i) 0 ≡ get_or (interval_numbers (told v)) i 0) → listed_at w k ≡ told v
unfolding interval_at parent_at first_at last_at best_column_at best_sum_at
numbers_read w k v h = rw (h parent_word (omega arith), h first_word (omega arith), h last_word (omega arith), h best_column_word (omega arith), h best_sum_word (omega arith))

pub numbers_long : (w : List ℕ) (k : ℕ) → length (interval_numbers (listed_at w k)) ≡ interval_words
unfolding interval_at
numbers_long w k = refl

-- they are written
pub put_done : (w : List ℕ) (k : ℕ) (v : declared.Interval) → heap_words (k + 1) ≤ length w → PutLeaves w (sets w (interval_start k) (interval_numbers (told v))) k (told v)
unfolding count_of reached_of mark_at
put_done w k v h = record {
  outside = record {
    long = length-sets w (interval_start k) (interval_numbers (told v));
    counted = sets_before w (interval_numbers (told v)) (interval_start k) count_word (omega arith);
    marked = record {
      number = sets_before w (interval_numbers (told v)) (interval_start k) reached_word (omega arith);
      each = λ c. stored_behind head_words place_words w (interval_numbers (told v)) k (omega arith) c mark_word (omega arith) (omega arith);
    };
    same = λ j o. interval_same _ w j j (λ i l. stored_other head_words place_words w (interval_numbers (told v)) k (omega arith) j i (apart j o) (omega arith));
  };
  here = numbers_read _ k v (λ i l. stored_here head_words place_words w (interval_numbers (told v)) k (omega arith) i l (omega arith));
}
  where
    apart : (j : ℕ) → (j < k) ⊎ (k + 1 ≤ j) → (j < k) ⊎ (k < j)
    apart j (inl a) = inl a
    apart j (inr a) = inr (omega arith)

-- a word of the head is no interval's
pub head_set : (w : List ℕ) (a v k : ℕ) → a < head_words → listed_at (set w a v) k ≡ listed_at w k
head_set w a v k h = interval_same (set w a v) w k k (λ i l.
    let n : interval_start k + i ≢ a = omega arith in
    get_or-set_other w a (interval_start k + i) v 0 n)

-- and no column's mark
pub head_mark : (w : List ℕ) (a v c : ℕ) → a < head_words → mark_at (set w a v) c ≡ mark_at w c
unfolding mark_at
head_mark w a v c h = let n : interval_start c + mark_word ≢ a = omega arith in get_or-set_other w a (interval_start c + mark_word) v 0 n

-- ---- moving a tail

-- the intervals `start` to n now lie from place `to` on; those below both places are untouched
pub record ShiftLeaves (w u : List ℕ) (start to n : ℕ) : Type 0 where
  pub long : length u ≡ length w
  pub counted : count_of u ≡ count_of w
  pub marked : Marks u w
  pub low : (k : ℕ) → k < start → k < to → listed_at u k ≡ listed_at w k
  pub high : (k : ℕ) → start ≤ k → k < n → listed_at u (to + (k - start)) ≡ listed_at w k

-- the same while those from a up to b are still to be moved
pub record ShiftKeeps (w u : List ℕ) (start to n a b : ℕ) : Type 0 where
  pub from_start : start ≤ a
  pub to_end : b ≤ n
  pub long : length u ≡ length w
  pub counted : count_of u ≡ count_of w
  pub marked : Marks u w
  pub low : (k : ℕ) → k < start → k < to → listed_at u k ≡ listed_at w k
  pub done : (k : ℕ) → start ≤ k → k < n → (k < a) ⊎ (b ≤ k) → listed_at u (to + (k - start)) ≡ listed_at w k
  pub rest : (k : ℕ) → a ≤ k → k < b → listed_at u k ≡ listed_at w k

module _ (w : List ℕ) (start to n : ℕ) where
  pub moving_all : ShiftKeeps w w start to n start n
  moving_all = record {
    from_start = omega arith;
    to_end = omega arith;
    long = refl;
    counted = refl;
    marked = marks_same w;
    low = λ k a b. refl;
    done = λ k a b o. absurd (⊎_elim (λ (l : k < start). omega arith) (λ (l : n ≤ k). omega arith) o);
    rest = λ k a b. refl;
  }

  pub shifted : (u : List ℕ) (a b : ℕ) → b ≤ a → ShiftKeeps w u start to n a b → ShiftLeaves w u start to n
  shifted u a b l m = record {
    long = m.long;
    counted = m.counted;
    marked = m.marked;
    low = m.low;
    high = λ k x y. m.done k x y (⊎_elim (λ (e : k < a). inl e) (λ (e : a ≤ k). inr (omega arith)) (split_at k a));
  }

  -- interval i is moved, and those from a' up to b' are left: its new place is none of theirs
  moving_step : (u v : List ℕ) (a b i a' b' : ℕ) → a ≤ i → i < b → ShiftKeeps w u start to n a b → PutLeaves u v (to + (i - start)) (listed_at u i)
      → a ≤ a' → b' ≤ b → ((k : ℕ) → a ≤ k → k < b → (k < a') ⊎ (b' ≤ k) → k ≡ i) → ((k : ℕ) → a' ≤ k → k < b' → k ≢ to + (i - start))
      → ShiftKeeps w v start to n a' b'
  moving_step u v a b i a' b' ai ib m p aa bb gone free = record {
    from_start = omega (arith, m.from_start);
    to_end = omega (arith, m.to_end);
    long = p.outside.long ∙ m.long;
    counted = p.outside.counted ∙ m.counted;
    marked = marks_then p.outside.marked m.marked;
    low = λ k x y. p.outside.same k (inl (omega arith)) ∙ m.low k x y;
    done = λ k x y o. moved k x y o (equality k i);
    rest = λ k x y. p.outside.same k (aside k (free k x y)) ∙ m.rest k (omega arith) (omega arith);
  }
    where
      aside : (k : ℕ) → k ≢ to + (i - start) → (k < to + (i - start)) ⊎ (to + (i - start) + 1 ≤ k)
      aside k q = ⊎_elim (λ (l : k < to + (i - start)). inl l) (λ (l : to + (i - start) ≤ k). inr (omega arith)) (split_at k (to + (i - start)))

      moved : (k : ℕ) → start ≤ k → k < n → (k < a') ⊎ (b' ≤ k) → Equal k i → listed_at v (to + (k - start)) ≡ listed_at w k
      moved k x y o (equal _ q) = rw q (p.here ∙ m.rest i ai ib)
      moved k x y o (differ _ q) =
          p.outside.same (to + (k - start)) (aside (to + (k - start)) (λ z. q (omega (arith, m.from_start))))
          ∙ m.done k x y (⊎_elim (λ (l : k < a). inl l) (λ (l : a ≤ k). ⊎_elim (λ (e : k < b). absurd (q (gone k l e o))) (λ (e : b ≤ k). inr e) (split_at k b)) (split_at k a))

  -- they go up, the last of them next
  pub moving_last : (u v : List ℕ) (a b : ℕ) → start < to → a < b → ShiftKeeps w u start to n a b → PutLeaves u v (to + (b - 1 - start)) (listed_at u (b - 1)) → ShiftKeeps w v start to n a (b - 1)
  moving_last u v a b up l m p = moving_step u v a b (b - 1) a (b - 1) (omega arith) (omega arith) m p (omega arith) (omega arith)
      (λ k x y o. ⊎_elim (λ (z : k < a). absurd (omega arith)) (λ (z : b - 1 ≤ k). omega arith) o) (λ k x y. omega (arith, m.from_start))

  -- they go down or stay, the first of them next
  pub moving_first : (u v : List ℕ) (a b : ℕ) → to ≤ start → a < b → ShiftKeeps w u start to n a b → PutLeaves u v (to + (a - start)) (listed_at u a) → ShiftKeeps w v start to n (a + 1) b
  moving_first u v a b down l m p = moving_step u v a b a (a + 1) b (omega arith) (omega arith) m p (omega arith) (omega arith)
      (λ k x y o. ⊎_elim (λ (z : k < a + 1). omega arith) (λ (z : b ≤ k). absurd (omega arith)) o) (λ k x y. omega (arith, m.from_start))
