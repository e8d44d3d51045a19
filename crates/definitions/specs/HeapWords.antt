-- The words of an interval heap: how many there are, which is which, and the intervals that they hold. Whoever reads, writes or counts them rests on
-- this file.
--   count_word reached_word head_words                    what stands before the intervals
--   parent_word .. best_sum_word interval_words            the words of one interval
--   mark_word place_words                                behind those of interval k the mark of column k
--   interval_start heap_words                            where interval k begins; how many words a heap takes
--   count_of reached_of parent_at .. best_sum_at mark_at     what the words say
--   interval_at span kept                               the intervals that they hold
--   best_at listed_at listed_in                           the same with their bests
use Rattle.std.specs.Prelude.{List, [], ◌∷◌, map, ℕ, zero, suc, ◌+◌, ◌*◌, get_or}
use Rattle.definitions.specs.Limits.{interval_size}
use Rattle.definitions.specs.Lists.{up_from}
use Rattle.definitions.specs.Best.{Best, by}
use Rattle.definitions.specs.Intervals.{Interval, interval}
use Rattle.definitions.specs.Model.{Listed}

-- ---- which is which

-- how many intervals there are, and how many columns are reached: some activated row has a path there (02, request 7)
abbrev pub count_word : ℕ
count_word = 0

abbrev pub reached_word : ℕ
reached_word = 1

abbrev pub head_words : ℕ
head_words = 2

-- the words of an interval are its numbers, in their order
abbrev pub parent_word : ℕ
parent_word = 0

abbrev pub first_word : ℕ
first_word = 1

abbrev pub last_word : ℕ
last_word = 2

abbrev pub best_column_word : ℕ
best_column_word = 3

abbrev pub best_sum_word : ℕ
best_sum_word = 4

abbrev pub interval_words : ℕ
interval_words = interval_size

-- Behind them stands whether a column is reached: the mark of column k behind interval k, and it stays there when intervals move.
abbrev pub mark_word : ℕ
mark_word = interval_words

abbrev pub place_words : ℕ
place_words = interval_words + 1

-- the intervals are packed from the front
abbrev pub interval_start : ℕ → ℕ
interval_start k = head_words + place_words * k

-- the heap of a block of so many columns: no two intervals share a column, so there are at most as many
abbrev pub heap_words : ℕ → ℕ
heap_words cols = head_words + place_words * cols

-- ---- what they say

unfoldable pub count_of : List ℕ → ℕ
count_of w = get_or w count_word 0

unfoldable pub reached_of : List ℕ → ℕ
reached_of w = get_or w reached_word 0

unfoldable pub parent_at : List ℕ → ℕ → ℕ
parent_at w k = get_or w (interval_start k + parent_word) 0

unfoldable pub first_at : List ℕ → ℕ → ℕ
first_at w k = get_or w (interval_start k + first_word) 0

unfoldable pub last_at : List ℕ → ℕ → ℕ
last_at w k = get_or w (interval_start k + last_word) 0

unfoldable pub best_column_at : List ℕ → ℕ → ℕ
best_column_at w k = get_or w (interval_start k + best_column_word) 0

unfoldable pub best_sum_at : List ℕ → ℕ → ℕ
best_sum_at w k = get_or w (interval_start k + best_sum_word) 0

-- 1 once column c is reached, else 0
unfoldable pub mark_at : List ℕ → ℕ → ℕ
mark_at w c = get_or w (interval_start c + mark_word) 0

unfoldable pub interval_at : List ℕ → ℕ → Interval
interval_at w k = interval (parent_at w k) (first_at w k) (last_at w k)

-- n intervals from place i on
unfoldable pub span : List ℕ → ℕ → ℕ → List Interval
span w i zero = []
span w i (suc n) = interval_at w i ∷ span w (suc i) n

-- all of them
unfoldable pub kept : List ℕ → List Interval
kept w = span w 0 (count_of w)

-- ---- with their bests

abbrev pub best_at : List ℕ → ℕ → Best
best_at w k = by (best_column_at w k) (best_sum_at w k)

abbrev pub listed_at : List ℕ → ℕ → Listed
listed_at w k = record { interval = interval_at w k; best = best_at w k }

unfoldable pub listed_in : List ℕ → List Listed
listed_in w = map (listed_at w) (up_from 0 (count_of w))
