-- One call of a session: it meets `Steps`.
--   stepped                     the three sentences of demand 3 on one call follow from the model's numbers
--   steps_refused               a refused call changes nothing
--   judge_activation judge_is    an activation: its refusals,
--   can_activate steps_activate    and one that is done
--   steps_none steps_column     an extraction
use Rattle.std.specs.Prelude.{◌≡◌, true, cond, ◌||◌, List, [], ◌∷◌, ◌≢◌, ℕ, ◌≤◌, ◌<◌, ltb, set, Some, None}
use Rattle.std.proofs.Math.Path.{refl, ap}
use Rattle.std.proofs.Common.{sym, ◌∙◌, arith, get_or-set_same}
use Rattle.std.proofs.Math.Bool.{false}
use borrow.Author.Tests.{eq-eqb, ne_eqb, eqb-true, leb-false}
use Rattle.std.proofs.Math.Dec.{eqb, leb}
use Rattle.std.proofs.Math.ListN.{length, get_or}
use Rattle.std.proofs.Math.Seq.{get_or-set_other}
use Rattle.definitions.specs.HeldModel.{lent_entry}
use Rattle.definitions.specs.CallChains.{SessionHolds, step_of, answer_in, Steps}
use Rattle.definitions.specs.Limits.{max_label, unreached}
use Rattle.definitions.specs.Lists.{Every}
use Rattle.definitions.specs.Best.{Best, nobody, by, least_from}
use Rattle.definitions.specs.Intervals.{count_new}
use Rattle.definitions.specs.Model.{Activation, Model, activate, extract, available, extraction_of, answer_of, is_activated, intervals, Call, Answer, judge}
use Rattle.definitions.specs.Labelling.{activation}
use Rattle.logic.specs.Tests.{clash, or_left, or_right, Truth, holds, fails, truth}
use Rattle.heap_laws.specs.ModelCalls.{Activates, Cases, activates, extracts, refuses}
use Rattle.heap_laws.proofs.ModelCalls.{cases, step_activate, step_extract, step_refused}
use Rattle.heap_laws.proofs.Parents.{is_activated_snoc}
use Rattle.heap_laws.proofs.Counting.{count_new_same}
use Rattle.heap_laws.proofs.Extract.{extracts_least}
use Rattle.heap_laws.proofs.TraceCounts.{call_balance, step_allowed}
use Rattle.definitions.specs.declared.Called.{Called}
use Rattle.engine.specs.Heap.Holds.{sound_of, relabelled}
use Rattle.engine.specs.Heap.HeapCalls.{Becomes, ActivateGiven, MinExtracted}

abbrev pub refusal : ℕ → ℕ → Called
refusal code floor = record { code = code; column = 0; sum = 0; floor = floor; inserted = 0; removed = 0 }

-- with the next model, its answer and its counts come the allowance, the balance and the least
stepped : (rows : List (List ℕ)) (cols : ℕ) (heap₀ labels₀ : List ℕ) (floor : ℕ) (m : Model) → SessionHolds rows cols heap₀ labels₀ floor m
    → (k : Call) (heap labels : List ℕ) (r : Called) → SessionHolds rows cols heap labels r.floor (step_of rows cols m k).model → answer_in r ≡ (step_of rows cols m k).answer
    → r.inserted ≡ count_new (intervals (lent_entry rows 0) cols (step_of rows cols m k).model) (intervals (lent_entry rows 0) cols m)
    → r.removed ≡ count_new (intervals (lent_entry rows 0) cols m) (intervals (lent_entry rows 0) cols (step_of rows cols m k).model)
    → Steps rows cols m k heap labels r
stepped rows cols heap₀ labels₀ floor m s k heap labels r next answer inserted removed = record {
  keeps = next;
  answer_is = answer;
  inserted_is = inserted;
  removed_is = removed;
  few = rw answer (omega (arith, inserted, step_allowed (lent_entry rows 0) (length rows) cols s.held.checked.monge m k (sound_of s.held)));
  balanced = omega (arith, inserted, removed, call_balance (lent_entry rows 0) cols m (step_of rows cols m k).model, ap length next.held.listed);
  least = λ q. rw answer (extracts_least (lent_entry rows 0) (length rows) cols m k q);
}

-- ---- refused

module _ (rows : List (List ℕ)) (cols : ℕ) (heap labels : List ℕ) (floor : ℕ) (m : Model) (s : SessionHolds rows cols heap labels floor m) where
  pub steps_refused : (k : Call) (code : ℕ) → code ≡ judge (length rows) m k → code ≢ 0 → Steps rows cols m k heap labels (refusal code floor)
  steps_refused k code e n =
      let q = step_refused (lent_entry rows 0) (length rows) cols m k (λ z. n (e ∙ z)) in
      stepped rows cols heap labels floor m s k heap labels (refusal code floor) (rw q s) (rw (q, e)) (rw q (sym (count_new_same (intervals (lent_entry rows 0) cols m)))) (rw q (sym (count_new_same (intervals (lent_entry rows 0) cols m))))

  -- any other kind of call
  pub steps_other : (k : Call) → k.kind ≢ 1 → k.kind ≢ 2 → Steps rows cols m k heap labels (refusal 9 floor)
  unfolding judge
  steps_other k a b = steps_refused k 9 (simp (ne_eqb k.kind 1 a, ne_eqb k.kind 2 b)) (omega arith)

-- ---- an activation

-- as the program judges it
unfoldable pub judge_activation : ℕ → List ℕ → ℕ → ℕ → ℕ → ℕ
judge_activation rows labels floor row label =
    cond (leb rows row) 9 (cond (eqb (get_or labels row 0) unreached) (cond (ltb max_label label || ltb label floor) 11 0) 10)

-- an activated row has a label within the limit
label_most : (row : ℕ) (labels : List ℕ) (xs : List Activation) → is_activated row xs ≡ true → Every (λ a. get_or labels a.row 0 ≡ a.label) xs → Every (λ a. a.label ≤ max_label) xs
    → get_or labels row 0 ≤ max_label
unfolding is_activated
label_most row labels [] h g b = absurd (clash h refl)
label_most row labels (a ∷ xs) h g b = go (truth (eqb row a.row)) (λ k. label_most row labels xs k g.1 b.1)
  where
    go : Truth (eqb row a.row) → (is_activated row xs ≡ true → get_or labels row 0 ≤ max_label) → get_or labels row 0 ≤ max_label
    go (holds t) rest = rw (eqb-true row a.row t) (omega (arith, g.0, b.0))
    go (fails t) rest = rest (simp t at h)

module _ (rows : List (List ℕ)) (cols : ℕ) (heap labels : List ℕ) (floor : ℕ) (m : Model) (s : SessionHolds rows cols heap labels floor m) (row label : ℕ) where
  pub judge_is : judge_activation (length rows) labels floor row label ≡ judge (length rows) m (activation row label)
  unfolding judge_activation judge
  judge_is = one (truth (leb (length rows) row))
    where
      two : leb (length rows) row ≡ false → Truth (is_activated row m.activated) → judge_activation (length rows) labels floor row label ≡ judge (length rows) m (activation row label)
      two a (holds b) =
          let n : get_or labels row 0 ≢ unreached = omega (arith, label_most row labels m.activated b s.held.labels_at (sound_of s.held).labelled) in
          simp (a, b, ne_eqb (get_or labels row 0) unreached n)
      two a (fails b) =
          let e : get_or labels row 0 ≡ unreached = s.unlabelled row (leb-false (length rows) row a) b in
          simp (a, b, eq-eqb (get_or labels row 0) unreached e, s.floor_is)

      one : Truth (leb (length rows) row) → judge_activation (length rows) labels floor row label ≡ judge (length rows) m (activation row label)
      one (holds a) = simp a
      one (fails a) = two a (truth (is_activated row m.activated))

  module _ (code : ℕ) (judged : code ≡ judge_activation (length rows) labels floor row label) (ok : code ≡ 0) where
    abbrev written : List ℕ
    written = set labels row label

    allowed : Activates (length rows) m (activation row label)
    allowed = go (cases (length rows) m (activation row label))
      where
        go : Cases (length rows) m (activation row label) → Activates (length rows) m (activation row label)
        go (activates a) = a
        go (extracts h) = absurd (omega arith)
        go (refuses h) = absurd (h (sym judge_is ∙ sym judged ∙ ok))

    label_there : get_or written row 0 ≡ label
    label_there = get_or-set_same labels row label 0 (omega (arith, allowed.row_in_lem, s.held.labelled))

    pub can_activate : ActivateGiven heap rows 0 cols written row m
    can_activate =
        let a = allowed in
        record {
          held = relabelled heap rows 0 cols labels m row label a.row_new s.held;
          row_in_lem = a.row_in_lem;
          row_new = a.row_new;
          high = rw label_there a.high;
          limited = rw label_there a.limited;
        }

    pub steps_activate : (u : List ℕ) (inserted removed : ℕ) → Becomes u rows 0 cols written m (activate m row (get_or written row 0)) inserted removed
        → Steps rows cols m (activation row label) u written (record { code = 0; column = 0; sum = 0; floor = floor; inserted = inserted; removed = removed })
    unfolding activate
    steps_activate u inserted removed b =
        let q = step_activate (lent_entry rows 0) (length rows) cols m (activation row label) allowed in
        let c = rw label_there at b in
        stepped rows cols heap labels floor m s (activation row label) u written _ (rw q (record { held = c.held; unlabelled = others; floor_is = s.floor_is })) (rw q) (rw q c.inserted_is) (rw q c.removed_is)
      where
        others : (r : ℕ) → r < length rows → is_activated r (activate m row label).activated ≡ false → get_or written r 0 ≡ unreached
        others r l h =
            let t : (is_activated r m.activated || eqb r row) ≡ false = rw is_activated_snoc at h in
            let n : r ≢ row = λ z. clash (eq-eqb r row z) (or_right (is_activated r m.activated) (eqb r row) t) in
            get_or-set_other labels row r label 0 n ∙ s.unlabelled r l (or_left (is_activated r m.activated) (eqb r row) t)

-- ---- an extraction

module _ (rows : List (List ℕ)) (cols : ℕ) (heap labels : List ℕ) (floor : ℕ) (m : Model) (s : SessionHolds rows cols heap labels floor m) (k : Call) (kind_is : k.kind ≡ 2) (u : List ℕ) (inserted parent : ℕ) where
  abbrev found : Best
  found = least_from (available (lent_entry rows 0) m) 0 cols

  asked : step_of rows cols m k ≡ record { model = extract m found; answer = extraction_of found }
  asked = step_extract (lent_entry rows 0) (length rows) cols m k kind_is

  pub steps_none : MinExtracted u rows 0 cols labels m None inserted parent → Steps rows cols m k u labels (refusal 50 floor)
  unfolding extract
  steps_none t = go found refl
    where
      go : (x : Best) → found ≡ x → Steps rows cols m k u labels (refusal 50 floor)
      go nobody e =
          let q = rw e at asked in
          let b = rw e at t.changed in
          stepped rows cols heap labels floor m s k u labels (refusal 50 floor) (rw q (record { held = b.held; unlabelled = s.unlabelled; floor_is = s.floor_is })) (rw q)
          (rw q (sym (count_new_same (intervals (lent_entry rows 0) cols m)))) (rw q (sym (count_new_same (intervals (lent_entry rows 0) cols m))))
      go (by c d) e = absurd (omega (arith, ap (λ (a : Answer). a.code) (rw e at t.answer_is)))

  pub steps_column : (column sum : ℕ) → MinExtracted u rows 0 cols labels m (Some (column, sum)) inserted parent
      → Steps rows cols m k u labels (record { code = 0; column = column; sum = sum; floor = sum; inserted = inserted; removed = 1 })
  unfolding extract
  steps_column column sum t = go found refl
    where
      go : (x : Best) → found ≡ x → Steps rows cols m k u labels (record { code = 0; column = column; sum = sum; floor = sum; inserted = inserted; removed = 1 })
      go nobody e = absurd (omega (arith, ap (λ (a : Answer). a.code) (rw e at t.answer_is)))
      go (by c d) e =
          let q = rw e at asked in
          let b = rw e at t.changed in
          let a : answer_of (Some (column, sum)) ≡ extraction_of (by c d) = rw e at t.answer_is in
          stepped rows cols heap labels floor m s k u labels _ (rw q (record { held = b.held; unlabelled = s.unlabelled; floor_is = ap (λ (a : Answer). a.sum) a })) (rw q a) (rw q b.inserted_is) (rw q b.removed_is)
