-- Demand 3 on the code, heap part: one claim about the whole list of calls, of any length and of any calls.
--   SessionHolds             words, labels and floor are those of a model
--   Steps Promised           what the engine's function `call` promises: they become those of the next model
--   Fresh                    what the first call is lent
--   Agrees Ran               after any number of calls; what the engine's function `run_calls` promises
--   Exchange Chain Follows   any chain of calls, and the claim about it that the theorem `demand3` proves
use Rattle.std.specs.Prelude.{◌≡◌, false, ℕ, ◌+◌, ◌*◌, ◌≤◌, ◌<◌, get_or, length, drop, replicate}
use mathlib.Core.List.{List, [], ◌∷◌, ◌++◌, map, flat_map}
use Rattle.definitions.specs.declared.Called.{Called}
use Rattle.definitions.specs.Limits.{max_side, row_places, answer_size, unreached}
use Rattle.definitions.specs.Lists.{total, Every}
use Rattle.definitions.specs.Monge.{closed}
use Rattle.definitions.specs.Intervals.{Distinct, count_new}
use Rattle.definitions.specs.Model.{Model, fresh, is_activated, intervals, with_best, Call, extracts, Answer, Stepped, step, allowance, ExtractsLeast, Trace, trace, AllExtractLeast, allowances}
use Rattle.definitions.specs.Entries.{answer_numbers}
use Rattle.definitions.specs.HeapWords.{heap_words, kept, listed_in}
use Rattle.definitions.specs.HeldModel.{lent_entry, Checked, Holds}

-- ---- one call

-- the words hold the model, a row that is not activated has no label, and the floor is the model's
pub record SessionHolds (rows : List (List ℕ)) (cols : ℕ) (heap labels : List ℕ) (floor : ℕ) (m : Model) : Type 0 where
  pub held : Holds heap rows 0 cols labels m
  pub unlabelled : (r : ℕ) → r < length rows → is_activated r m.activated ≡ false → get_or labels r 0 ≡ unreached
  pub floor_is : floor ≡ m.floor

-- what the model does at a call
abbrev pub step_of : List (List ℕ) → ℕ → Model → Call → Stepped
step_of rows cols m k = step (lent_entry rows 0) (length rows) cols m k

-- how many columns are closed
abbrev pub shut_of : List (List ℕ) → ℕ → ℕ
shut_of rows cols = closed (lent_entry rows 0) (length rows) cols

-- code, column and sum of what a call returns
abbrev pub answer_in : Called → Answer
answer_in r = record { code = r.code; column = r.column; sum = r.sum }

-- The call k on the model m returns r and leaves these words and labels: they are those of the next model; the answer and the counts are the model's.
pub record Steps (rows : List (List ℕ)) (cols : ℕ) (m : Model) (k : Call) (heap labels : List ℕ) (r : Called) : Type 0 where
  pub keeps : SessionHolds rows cols heap labels r.floor (step_of rows cols m k).model
  pub answer_is : answer_in r ≡ (step_of rows cols m k).answer
  pub inserted_is : r.inserted ≡ count_new (intervals (lent_entry rows 0) cols (step_of rows cols m k).model) (intervals (lent_entry rows 0) cols m)
  pub removed_is : r.removed ≡ count_new (intervals (lent_entry rows 0) cols m) (intervals (lent_entry rows 0) cols (step_of rows cols m k).model)
  -- three inserted at most by an activation, and one more for each closed column; two by an extraction; none by a call that is refused or finds no interval
  pub few : r.inserted ≤ allowance (shut_of rows cols) k (answer_in r)
  -- kept before and inserted are together removed and kept after
  pub balanced : length (intervals (lent_entry rows 0) cols m) + r.inserted ≡ r.removed + length (kept heap)
  -- an extraction answers none exactly if no interval is left, else the least that is left
  pub least : k.kind ≡ extracts → ExtractsLeast (lent_entry rows 0) cols m (answer_in r)

-- what `call` promises, given these words, labels and floor: whatever model they are those of, it makes the call k on it
abbrev pub Promised : List (List ℕ) → ℕ → List ℕ → List ℕ → ℕ → Call → List ℕ → List ℕ → Called → Type 0
Promised rows cols heap labels floor k heap' labels' r = (m : Model) → SessionHolds rows cols heap labels floor m → Steps rows cols m k heap' labels' r

-- ---- any number of calls

-- a checked rectangle, the words of a fresh heap, and no row has a label
pub record Fresh (rows : List (List ℕ)) (cols : ℕ) (heap labels : List ℕ) : Type 0 where
  pub checked : Checked rows 0 cols
  pub heap_is : heap ≡ replicate (heap_words row_places) 0
  pub labels_is : labels ≡ replicate max_side unreached

-- the trace of calls on the lent rows
abbrev pub trace_of : List (List ℕ) → ℕ → List Call → Trace
trace_of rows cols ks = trace (lent_entry rows 0) (length rows) cols ks

-- The words and labels are those of the model that the calls ks leave, and the counts are those of their trace.
pub record Agrees (rows : List (List ℕ)) (cols : ℕ) (ks : List Call) (heap labels : List ℕ) (inserted removed : ℕ) : Type 0 where
  pub keeps : SessionHolds rows cols heap labels (trace_of rows cols ks).model.floor (trace_of rows cols ks).model
  -- the kept intervals are exactly the model's, each once
  pub kept_are : kept heap ≡ intervals (lent_entry rows 0) cols (trace_of rows cols ks).model
  -- each with its best
  pub listed_are : listed_in heap ≡ map (with_best (lent_entry rows 0) (trace_of rows cols ks).model) (kept heap)
  pub once : Distinct (kept heap)
  pub inserted_is : inserted ≡ (trace_of rows cols ks).inserted
  pub removed_is : removed ≡ (trace_of rows cols ks).removed
  -- inserted = removed + kept
  pub balanced : inserted ≡ removed + length (kept heap)
  -- three inserted at most by each activation, and one more for each closed column; two by each extraction; none by any other call
  pub few : inserted ≤ allowances (shut_of rows cols) ks (trace_of rows cols ks).answers
  -- each extraction answers none exactly if no interval is left where its turn comes, else the least that is left
  pub least : AllExtractLeast (lent_entry rows 0) (length rows) cols fresh ks (trace_of rows cols ks).answers

-- What `run_calls` promises of the calls ks: the answers stand at the front of their buffer, and the rest is as `before`.
pub record Ran (rows : List (List ℕ)) (cols : ℕ) (ks : List Call) (heap labels before answers : List ℕ) (inserted removed : ℕ) : Type 0 where
  pub agrees : Agrees rows cols ks heap labels inserted removed
  pub answers_are : answers ≡ flat_map answer_numbers (trace_of rows cols ks).answers ++ drop (answer_size * length ks) before

-- ---- any chain of calls

-- what is lent to a call: the heap's words, the labels and the floor
pub record CallState : Type 0 where
  pub heap : List ℕ
  pub labels : List ℕ
  pub floor : ℕ

-- a call and what it returned
pub record Exchange : Type 0 where
  pub call : Call
  pub called : Called

-- Calls one after the other: the first one is lent a fresh heap and the floor 0, each other one what the one before it left, and each is as `call` promises.
pub data Chain (rows : List (List ℕ)) (cols : ℕ) : List Exchange → CallState → Type 0 where
  start : {s : CallState} → Fresh rows cols s.heap s.labels → s.floor ≡ 0 → Chain rows cols [] s
  then : {xs : List Exchange} {s t : CallState} (x : Exchange) → Chain rows cols xs s
      → Promised rows cols s.heap s.labels s.floor x.call t.heap t.labels x.called → t.floor ≡ x.called.floor
      → Chain rows cols (xs ++ x ∷ []) t

-- the calls of a chain, its answers, and what all of them inserted and removed
abbrev pub calls_made : List Exchange → List Call
calls_made xs = map (λ x. x.call) xs

abbrev pub answers_made : List Exchange → List Answer
answers_made xs = map (λ x. answer_in x.called) xs

abbrev pub inserted_by : List Exchange → ℕ
inserted_by xs = total (map (λ x. x.called.inserted) xs)

abbrev pub removed_by : List Exchange → ℕ
removed_by xs = total (map (λ x. x.called.removed) xs)

-- What is left at the end of a chain agrees with the trace of its calls, and so do all answers; no call inserted more than its allowance.
pub record Follows (rows : List (List ℕ)) (cols : ℕ) (xs : List Exchange) (s : CallState) : Type 0 where
  pub agrees : Agrees rows cols (calls_made xs) s.heap s.labels (inserted_by xs) (removed_by xs)
  pub floor_is : s.floor ≡ (trace_of rows cols (calls_made xs)).model.floor
  pub answers_are : answers_made xs ≡ (trace_of rows cols (calls_made xs)).answers
  pub few : Every (λ x. x.called.inserted ≤ allowance (shut_of rows cols) x.call (answer_in x.called)) xs
