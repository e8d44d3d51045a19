-- Document 02, request 5: an index of the columns of a row, and the least length of a stretch, asked of it. A row is given by the length of each of its
-- columns; a stretch by its first column and its end, one past its last. The law that this list names stands in the file `Index` of proofs/.
--   least_in IsLeast          the lowest column of least length of a stretch, with the law that it is
--   column_of held_at row_index index_of       what the index holds for a row, and for a rectangle
--   in_stretch held_in ask     a question, by halves, whatever the index holds
--   least_found least_answer   its answer
use Rattle.std.specs.Prelude.{true, false, cond, ◌&&◌, ◌||◌, ℕ, zero, suc, ◌+◌, ◌-◌, ◌/◌, ◌≤◌, ◌<◌, ltb, leb, get_or, Option, Some, None, Result, Ok, Err}
use mathlib.Core.List.{List, map, flat_map}
use Rattle.definitions.specs.declared.Cause.{Cause}
use Rattle.definitions.specs.declared.LeastAnswer.{LeastAnswer}
use Rattle.definitions.specs.Causes.{number_of}
use Rattle.definitions.specs.Limits.{index_row_places, index_places}
use Rattle.definitions.specs.Lists.{up_from, padded}
use Rattle.definitions.specs.Network.{Rectangle}
use Rattle.definitions.specs.Blocks.{Split, splits_of}
use Rattle.definitions.specs.Best.{Best, nobody, by, lesser, least_from}
use Rattle.definitions.specs.Model.{nothing_left}

-- ---- the least of a stretch

-- of the k columns from s on, by the operation that an extraction uses
unfoldable pub least_in : (ℕ → ℕ) → ℕ → ℕ → Best
least_in row s k = least_from (λ c. by c (row c)) s k

-- In plain terms: the column lies in the stretch, no length there is less than its own, and none before it is as small.
pub record IsLeast (row : ℕ → ℕ) (first end column : ℕ) : Type 0 where
  pub low : first ≤ column
  pub high : column < end
  pub no_less : (c : ℕ) → first ≤ c → c < end → row column ≤ row c
  pub no_lower : (c : ℕ) → first ≤ c → c < column → row column < row c

-- ---- the index

-- the column of what is found
unfoldable pub column_of : Best → ℕ
column_of nobody = 0
column_of (by c n) = c

-- for a stretch that is cut: its lowest column of least length
unfoldable pub held_at : (ℕ → ℕ) → Split → ℕ
held_at row c = column_of (least_in row c.first (c.end - c.first))

-- For the whole row and for each half, cut as in document 01 and in the order of its splits. A single column needs no number, so there is one number
-- fewer than there are columns.
unfoldable pub row_index : (ℕ → ℕ) → ℕ → List ℕ
row_index row cols = map (held_at row) (splits_of cols)

-- of a rectangle: 23 places for each row, one row behind the other; unused places are 0
unfoldable pub index_of : Rectangle → ℕ → ℕ → List ℕ
index_of e rows cols = padded index_places 0 (flat_map (λ i. padded index_row_places 0 (row_index (e i) cols)) (up_from 0 rows))

-- ---- a question

-- A number that is no column of its stretch counts as the first one of it: an index that was never built may hold any.
unfoldable pub in_stretch : ℕ → ℕ → ℕ → ℕ
in_stretch s k c = cond (leb s c && ltb c (s + k)) c s

-- the column held at place p for the k columns from s on; a single one needs no place
unfoldable pub held_in : List ℕ → ℕ → ℕ → ℕ → ℕ
held_in held p s k = cond (ltb k 2) s (in_stretch s k (get_or held p 0))

-- Of the columns from a up to b those among the k columns from s on, whose places begin at p: nobody if there are none; what is held if they are all of these;
-- else the lesser of the two halves. The places of the first half follow that of the whole, and behind them stand those of the second. `fuel` bounds the
-- depth, and k is always enough.
unfoldable pub ask : ℕ → (ℕ → ℕ) → List ℕ → ℕ → ℕ → ℕ → ℕ → ℕ → Best
ask zero row held a b p s k = nobody
ask (suc fuel) row held a b p s k = elim (leb b s || leb (s + k) a) [
  | true ↦ nobody
  | false ↦ elim (leb a s && leb (s + k) b) [
    | true ↦ by (held_in held p s k) (row (held_in held p s k))
    | false ↦ lesser (ask fuel row held a b (p + 1) s (k / 2)) (ask fuel row held a b (p + k / 2) (s + k / 2) (k - k / 2))
  ]
]

-- its answer: a column, that there is none, or the number of the cause that turned it away
pub data Least : Type 0 where
  a_column : ℕ → Least
  no_column : Least
  turned_away : ℕ → Least

-- the same for each case of the answer as the program has it
abbrev pub least_of : Result (Option ℕ) Cause → Least
least_of (Ok (Some c)) = a_column c
least_of (Ok None) = no_column
least_of (Err cause) = turned_away (number_of cause)

-- what is found, as the answer
abbrev pub least_found : Best → Least
least_found nobody = no_column
least_found (by c n) = a_column c

-- the code and the column of each answer: 0 with a column, 50 where there is none, else why it was refused
abbrev pub least_answer : Least → LeastAnswer
least_answer (a_column c) = record { code = 0; column = c }
least_answer no_column = record { code = nothing_left; column = 0 }
least_answer (turned_away k) = record { code = k; column = 0 }
