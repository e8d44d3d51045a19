-- The marks of the columns that are reached: a row reaches those of a stretch at which it has a path.
--   Counted                            marks are 0 or 1, and the word of the head counts them
--   Reaches ReachLeaves reach-..       the marks that are set, column by column
--   WinsAll MarkKeeps MarkAllLeaves mark-..    all marks at once
use Rattle.std.specs.Prelude.{◌≡◌, refl, false, ◌||◌, List, ◌⊎◌, ◌≢◌, ℕ, ◌+◌, ◌≤◌, ◌<◌, eqb, length, set}
use Rattle.std.proofs.Math.Path.{sym}
use Rattle.std.proofs.Common.{ap, ◌∙◌, eqb-true}
use Rattle.std.proofs.Math.Bool.{true}
use Rattle.std.proofs.Math.Logic.{inl, inr, ⊎_elim}
use native.Mathlib.Omega.{arith}
use Rattle.std.proofs.Math.ListN.{length-set}
use Rattle.std.proofs.Math.Seq.{get_or-set_same, get_or-set_other}
use Rattle.definitions.specs.Limits.{row_places}
use Rattle.definitions.specs.Lists.{count}
use Rattle.definitions.specs.HeapWords.{count_word, reached_word, mark_word, head_words, place_words, interval_words, interval_start, heap_words, count_of, reached_of, mark_at, listed_at}
use Rattle.logic.specs.Tests.{clash, split_at, Equal, equal, differ, equality}
use Rattle.basics.specs.ListLaws.{count_le, count_in, count_full, count_all, count_same}
use Rattle.engine.specs.Heap.Strides.{group_ends}
use Rattle.engine.specs.Heap.WordLaws.{word_end, interval_same, head_set, head_mark}
use Rattle.engine.specs.Heap.RowRuns.{has_path}
use Rattle.engine.specs.Heap.Search.{reaches_first}

-- a mark is no interval's word
mark_apart : (c k i : ℕ) → i < interval_words → interval_start k + i ≢ interval_start c + mark_word
mark_apart c k i l z = ⊎_elim
    (λ (m : k < c). omega (arith, group_ends place_words k c m))
    (λ (m : c ≤ k). ⊎_elim (λ (n : c < k). omega (arith, group_ends place_words c k n)) (λ (n : k ≤ c). let q : k ≡ c = omega arith in omega arith) (split_at c k))
    (split_at k c)

-- each of the columns is marked by 1 or not, by 0, and the word of the head says how many are
pub record Counted (w : List ℕ) (cols : ℕ) : Type 0 where
  pub words : heap_words cols ≤ length w
  pub small : cols ≤ row_places
  pub marks : (c : ℕ) → c < cols → mark_at w c ≤ 1
  pub number : reached_of w ≡ count (λ c. eqb (mark_at w c) 1) cols

-- u has the marks of w, and those of the columns from `first` up to, not including, `end` at which the row has a path
pub record Reaches (w u : List ℕ) (rows : List (List ℕ)) (col0 cols row first end : ℕ) : Type 0 where
  pub marks : Counted u cols
  pub inside : (c : ℕ) → first ≤ c → c < end → has_path rows col0 row c ≡ true → mark_at u c ≡ 1
  pub without : (c : ℕ) → has_path rows col0 row c ≡ false → mark_at u c ≡ mark_at w c
  pub outside : (c : ℕ) → (c < first) ⊎ (end ≤ c) → mark_at u c ≡ mark_at w c

-- and the same intervals
pub record ReachLeaves (w u : List ℕ) (rows : List (List ℕ)) (col0 cols row first end : ℕ) : Type 0 where
  pub long : length u ≡ length w
  pub counted : count_of u ≡ count_of w
  pub same : (k : ℕ) → listed_at u k ≡ listed_at w k
  pub reaches : Reaches w u rows col0 cols row first end

module _ (w : List ℕ) (rows : List (List ℕ)) (col0 cols row : ℕ) (given : Counted w cols) where
  pub reach_none : (first end : ℕ) → ((c : ℕ) → first ≤ c → c < end → has_path rows col0 row c ≡ true → mark_at w c ≡ 1) → ReachLeaves w w rows col0 cols row first end
  reach_none first end all = record {
    long = refl;
    counted = refl;
    same = λ k. refl;
    reaches = record { marks = given; inside = all; without = λ c t. refl; outside = λ c o. refl };
  }

  -- all columns are reached already
  pub reach_full : (first end : ℕ) → end ≤ cols → reached_of w ≡ cols → ReachLeaves w w rows col0 cols row first end
  reach_full first end l q = reach_none first end (λ c a b _. eqb-true _ _ (count_full (λ d. eqb (mark_at w d) 1) cols (omega (arith, given.number)) c (omega arith)))

  module _ (c : ℕ) (h : c < cols) where
    -- the column is reached already, or the row has no path there
    pub reach_not : reaches_first w rows col0 row c ≡ false → ReachLeaves w w rows col0 cols row c (c + 1)
    unfolding reaches_first
    reach_not t = reach_none c (c + 1) (λ d a b p.
        let z : d ≡ c = omega arith in
        go d z p (equality (mark_at w d) 0))
      where
        go : (d : ℕ) → d ≡ c → has_path rows col0 row d ≡ true → Equal (mark_at w d) 0 → mark_at w d ≡ 1
        go d z p (differ u n) = omega (arith, given.marks d (omega arith))
        go d z p (equal u n) = absurd (clash (simp (rw z at u, rw z at p) refl) t)

    mark_place : interval_start c + mark_word < length w
    mark_place = omega (arith, given.words, group_ends place_words c cols h)

    -- it is marked, and counted
    abbrev pub reached : List ℕ
    reached = set (set w (interval_start c + mark_word) 1) reached_word (reached_of w + 1)

    here : mark_at reached c ≡ 1
    unfolding mark_at
    here = head_mark (set w (interval_start c + mark_word) 1) reached_word (reached_of w + 1) c (omega arith) ∙ get_or-set_same w (interval_start c + mark_word) 1 0 mark_place

    other : (d : ℕ) → d ≢ c → mark_at reached d ≡ mark_at w d
    unfolding mark_at
    other d n =
        let z : interval_start d + mark_word ≢ interval_start c + mark_word = omega arith in
        head_mark (set w (interval_start c + mark_word) 1) reached_word (reached_of w + 1) d (omega arith) ∙ get_or-set_other w (interval_start c + mark_word) (interval_start d + mark_word) 1 0 z

    pub reach_small : reached_of w + 1 < word_end
    reach_small = omega (arith, given.number, given.small, count_le (λ d. eqb (mark_at w d) 1) cols)

    module _ (t : reaches_first w rows col0 row c ≡ true) (free : mark_at w c ≡ 0) (path : has_path rows col0 row c ≡ true) where
      one_more : count (λ d. eqb (mark_at reached d) 1) cols ≡ reached_of w + 1
      one_more = count_same (λ d. eqb (mark_at reached d) 1) (λ d. eqb d c || eqb (mark_at w d) 1) cols (λ d l. go d (equality d c))
          ∙ count_in (λ d. eqb (mark_at w d) 1) c cols (rw free refl) h ∙ omega (arith, given.number)
        where
          go : (d : ℕ) → Equal d c → eqb (mark_at reached d) 1 ≡ (eqb d c || eqb (mark_at w d) 1)
          go d (equal u q) = rw (u, q) (ap (λ (x : ℕ). eqb x 1) here)
          go d (differ u n) = rw (u, other d n)

      pub reach_column : ReachLeaves w reached rows col0 cols row c (c + 1)
      unfolding count_of reached_of
      reach_column = record {
        long = length-set (set w (interval_start c + mark_word) 1) reached_word (reached_of w + 1) ∙ length-set w (interval_start c + mark_word) 1;
        counted =
            let y : count_word ≢ reached_word = omega arith in
            let z : count_word ≢ interval_start c + mark_word = omega arith in
            get_or-set_other (set w (interval_start c + mark_word) 1) reached_word count_word (reached_of w + 1) 0 y ∙ get_or-set_other w (interval_start c + mark_word) count_word 1 0 z;
        same = λ k. head_set (set w (interval_start c + mark_word) 1) reached_word (reached_of w + 1) k (omega arith) ∙ interval_same (set w (interval_start c + mark_word) 1) w k k (λ i l.
            get_or-set_other w (interval_start c + mark_word) (interval_start k + i) 1 0 (mark_apart c k i l));
        reaches = record {
          marks = record {
            words = rw (length-set, length-set) given.words;
            small = given.small;
            marks = λ d l. ⊎_elim (λ (q : d ≡ c). rw q (omega (arith, here))) (λ (n : d ≢ c). omega (arith, other d n, given.marks d l)) (either d);
            number = get_or-set_same (set w (interval_start c + mark_word) 1) reached_word (reached_of w + 1) 0 (rw length-set (omega (arith, given.words))) ∙ sym one_more;
          };
          inside = λ d a b p. let z : d ≡ c = omega arith in rw z here;
          without = λ d p. other d (λ z. clash path (rw z at p));
          outside = λ d o. other d (λ z. ⊎_elim (λ (l : d < c). omega arith) (λ (l : c + 1 ≤ d). omega arith) o);
        };
      }
        where
          either : (d : ℕ) → (d ≡ c) ⊎ (d ≢ c)
          either d = go (equality d c)
            where
              go : Equal d c → (d ≡ c) ⊎ (d ≢ c)
              go (equal _ q) = inl q
              go (differ _ n) = inr n

-- one column more
pub reach_more : (w u v : List ℕ) (rows : List (List ℕ)) (col0 cols row first c : ℕ) → first ≤ c → ReachLeaves w u rows col0 cols row first c → ReachLeaves u v rows col0 cols row c (c + 1)
    → ReachLeaves w v rows col0 cols row first (c + 1)
reach_more w u v rows col0 cols row first c l a b = record {
  long = b.long ∙ a.long;
  counted = b.counted ∙ a.counted;
  same = λ k. b.same k ∙ a.same k;
  reaches = record {
    marks = b.reaches.marks;
    inside = λ d x y p. ⊎_elim (λ (m : d < c). b.reaches.outside d (inl m) ∙ a.reaches.inside d x m p) (λ (m : c ≤ d). b.reaches.inside d m y p) (split_at d c);
    without = λ d p. b.reaches.without d p ∙ a.reaches.without d p;
    outside = λ d o. ⊎_elim
        (λ (m : d < first). b.reaches.outside d (inl (omega arith)) ∙ a.reaches.outside d (inl m))
        (λ (m : c + 1 ≤ d). b.reaches.outside d (inr m) ∙ a.reaches.outside d (inr (omega arith)))
        o;
  };
}

-- ---- all columns at once

-- nothing is reached, and the row has a path at every column
pub record WinsAll (w : List ℕ) (rows : List (List ℕ)) (col0 cols row : ℕ) : Type 0 where
  pub fresh : reached_of w ≡ 0
  pub paths : (c : ℕ) → c < cols → has_path rows col0 row c ≡ true

-- u is w with the first n columns marked
pub record MarkKeeps (w u : List ℕ) (n : ℕ) : Type 0 where
  pub long : length u ≡ length w
  pub counted : count_of u ≡ count_of w
  pub same : (k : ℕ) → listed_at u k ≡ listed_at w k
  pub marked : (c : ℕ) → c < n → mark_at u c ≡ 1
  pub rest : (c : ℕ) → n ≤ c → mark_at u c ≡ mark_at w c

-- all of them, and the word of the head says so
pub record MarkAllLeaves (w u : List ℕ) (cols : ℕ) : Type 0 where
  pub keeps : MarkKeeps w u cols
  pub number : reached_of u ≡ cols

pub mark_none : (w : List ℕ) → MarkKeeps w w 0
mark_none w = record { long = refl; counted = refl; same = λ k. refl; marked = λ c l. absurd (omega arith); rest = λ c l. refl }

pub mark_more : (w u : List ℕ) (n : ℕ) → interval_start n + mark_word < length w → MarkKeeps w u n → MarkKeeps w (set u (interval_start n + mark_word) 1) (n + 1)
unfolding count_of mark_at
mark_more w u n l h = record {
  long = length-set u (interval_start n + mark_word) 1 ∙ h.long;
  counted = let z : count_word ≢ interval_start n + mark_word = omega arith in get_or-set_other u (interval_start n + mark_word) count_word 1 0 z ∙ h.counted;
  same = λ k. interval_same (set u (interval_start n + mark_word) 1) u k k (λ i b. get_or-set_other u (interval_start n + mark_word) (interval_start k + i) 1 0 (mark_apart n k i b)) ∙ h.same k;
  marked = λ c b. ⊎_elim
      (λ (m : c < n). let z : interval_start c + mark_word ≢ interval_start n + mark_word = omega arith in get_or-set_other u (interval_start n + mark_word) (interval_start c + mark_word) 1 0 z ∙ h.marked c m)
      (λ (m : n ≤ c). let q : c ≡ n = omega arith in rw q (get_or-set_same u (interval_start n + mark_word) 1 0 (omega (arith, h.long))))
      (split_at c n);
  rest = λ c b. let z : interval_start c + mark_word ≢ interval_start n + mark_word = omega arith in get_or-set_other u (interval_start n + mark_word) (interval_start c + mark_word) 1 0 z ∙ h.rest c (omega arith);
}

pub mark_done : (w u : List ℕ) (cols : ℕ) → head_words ≤ length w → MarkKeeps w u cols → MarkAllLeaves w (set u reached_word cols) cols
unfolding count_of reached_of
mark_done w u cols l h = record {
  keeps = record {
    long = length-set u reached_word cols ∙ h.long;
    counted = let z : count_word ≢ reached_word = omega arith in get_or-set_other u reached_word count_word cols 0 z ∙ h.counted;
    same = λ k. head_set u reached_word cols k (omega arith) ∙ h.same k;
    marked = λ c b. head_mark u reached_word cols c (omega arith) ∙ h.marked c b;
    rest = λ c b. head_mark u reached_word cols c (omega arith) ∙ h.rest c b;
  };
  number = get_or-set_same u reached_word cols 0 (omega (arith, h.long));
}

-- then each is reached, of a row that has a path at every column
pub reach_all : (w u : List ℕ) (rows : List (List ℕ)) (col0 cols row : ℕ) → heap_words cols ≤ length w → cols ≤ row_places → ((c : ℕ) → c < cols → has_path rows col0 row c ≡ true) → MarkAllLeaves w u cols
    → ReachLeaves w u rows col0 cols row 0 cols
reach_all w u rows col0 cols row long small paths h = record {
  long = h.keeps.long;
  counted = h.keeps.counted;
  same = h.keeps.same;
  reaches = record {
    marks = record {
      words = omega (arith, h.keeps.long);
      small = small;
      marks = λ c l. omega (arith, h.keeps.marked c l);
      number = h.number ∙ sym (count_all (λ c. eqb (mark_at u c) 1) cols (λ c l. ap (λ (x : ℕ). eqb x 1) (h.keeps.marked c l)));
    };
    inside = λ c a b p. h.keeps.marked c b;
    without = λ c p. ⊎_elim (λ (l : c < cols). absurd (clash (paths c l) p)) (λ (l : cols ≤ c). h.keeps.rest c l) (split_at c cols);
    outside = λ c o. ⊎_elim (λ (l : c < 0). absurd (omega arith)) (λ (l : cols ≤ c). h.keeps.rest c l) o;
  };
}
