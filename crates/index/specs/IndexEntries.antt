-- What the entries on a lent rectangle return, case by case, and what a question gets in plain terms.
--   a_number buffers_fit buffers_sized      the judgement of the buffers
--   built_buffers built_cause built_done    building
--   question_buffers question_sides Ready ready     the judgement of a question
--   asked_refused .. asked_found            asking
--   built_least answered                    a question to an index as built
use Rattle.std.specs.Prelude.{◌≡◌, refl, ◌&&◌, List, Ok, Err, ◌≢◌, ℕ, ◌+◌, ◌-◌, ◌*◌, ◌≤◌, ◌<◌, length}
use Rattle.std.proofs.Math.Path.{sym, ap}
use Rattle.std.proofs.Common.{◌∙◌}
use native.Mathlib.Omega.{arith}
use borrow.Author.Tests.{eq-eqb, ne_eqb, eqb-true, lt-ltb, le-ltb, le-leb, lt-leb}
use Rattle.std.proofs.Math.Dec.{eqb}
use Rattle.definitions.specs.declared.Cause.{Cause}
use Rattle.definitions.specs.Causes.{number_of}
use Rattle.definitions.proofs.Causes.{verdict_lem}
use Rattle.definitions.specs.Limits.{row_places, rectangle_places, index_row_places, index_places}
use Rattle.definitions.specs.Best.{by}
use Rattle.definitions.specs.Index.{IsLeast, index_of, ask, Least, a_column, no_column, turned_away, least_found}
use Rattle.definitions.proofs.Index.{least_in_lem}
use Rattle.definitions.specs.Entries.{has_places, rectangle_of, judge_sides, judge_rectangle, AfterIndex, judge_index_buffers, judge_index, build_index, judge_question, ask_index}
use Rattle.definitions.specs.PlainPromises.{PlainLeast}
use Rattle.definitions.proofs.Laws.CauseLaws.{refused, passed, last, no_cause, test_holds}
use Rattle.logic.specs.Tests.{Order, less, more, order, and_left, and_right, Equal, equal, differ, equality}
use Rattle.basics.specs.Sequences.{get_or_each}
use Rattle.rectangles.specs.RectangleJudgement.{Sides, sides_in}
use Rattle.rectangles.specs.RectangleRows.{grid_row}
use Rattle.index.specs.HeldRows.{lengths_in, held_from, HeldAt}
use Rattle.index.specs.StretchHalves.{least_some}
use Rattle.index.specs.Questions.{ask_least, ask_same, ask_moved}
use Rattle.index.specs.IndexRows.{held_row, length_index, row_placed, held_placed}

-- a cause has a number
pub a_number : (cause : Cause) → number_of cause ≢ 0
a_number cause h = let e = verdict_lem (Err cause) (Ok tt) h in cc

-- ---- the buffers

module _ (lengths index : List ℕ) where
  pub buffers_fit : length lengths ≡ rectangle_places → length index ≡ index_places → 0 ≡ judge_index_buffers lengths index
  unfolding judge_index_buffers has_places
  buffers_fit e f = rw (eq-eqb (length lengths) rectangle_places e, eq-eqb (length index) index_places f)

  -- what buffers that pass may rely on
  pub buffers_sized : judge_index_buffers lengths index ≡ 0 → (length lengths ≡ rectangle_places) × (length index ≡ index_places)
  unfolding judge_index_buffers has_places
  buffers_sized h =
      let t = test_holds (eqb (length lengths) rectangle_places && eqb (length index) index_places) 0 h in (
        eqb-true (length lengths) rectangle_places (and_left (eqb (length lengths) rectangle_places) (eqb (length index) index_places) t),
        eqb-true (length index) index_places (and_right (eqb (length lengths) rectangle_places) (eqb (length index) index_places) t),
      )

-- ---- building

module _ (rows cols : ℕ) (lengths index : List ℕ) where
  refusal : (cause : ℕ) → cause ≡ judge_index rows cols lengths index → cause ≢ 0 → build_index rows cols lengths index ≡ record { number = cause; index = index }
  unfolding build_index
  refusal cause e n = rw (← e, ne_eqb cause 0 n)

  pub built_buffers : (early : ℕ) → early ≡ judge_index_buffers lengths index → early ≢ 0 → build_index rows cols lengths index ≡ record { number = early; index = index }
  unfolding judge_index
  built_buffers early e n = refusal early (rw (← e) (sym (refused early _ n))) n

  -- the buffers pass, so that the rectangle's cause is the whole's
  module _ (early : ℕ) (buffers : early ≡ judge_index_buffers lengths index) (none : early ≡ 0) (cause : ℕ) (judged : cause ≡ judge_rectangle rows cols (rectangle_of lengths)) where
    cause_is : cause ≡ judge_index rows cols lengths index
    unfolding judge_index
    cause_is = judged ∙ sym (passed (judge_index_buffers lengths index) _ (sym buffers ∙ none) ∙ last (judge_rectangle rows cols (rectangle_of lengths)))

    pub built_cause : cause ≢ 0 → build_index rows cols lengths index ≡ record { number = cause; index = index }
    built_cause n = refusal cause cause_is n

    pub built_done : cause ≡ 0 → build_index rows cols lengths index ≡ record { number = 0; index = index_of (rectangle_of lengths) rows cols }
    unfolding build_index
    built_done z = rw (← cause_is, eq-eqb cause 0 z)

-- ---- the judgement of a question

-- what a question that is not refused may rely on
pub record Ready (rows cols : ℕ) (lengths index : List ℕ) : Type 0 where
  pub lengths_sized : length lengths ≡ rectangle_places
  pub index_sized : length index ≡ index_places
  pub sides_fit : Sides rows cols

module _ (rows cols : ℕ) (lengths index : List ℕ) where
  pub question_buffers : (cause : ℕ) → cause ≡ judge_index_buffers lengths index → cause ≢ 0 → cause ≡ judge_question rows cols lengths index
  unfolding judge_question
  question_buffers cause e n = rw (← e) (sym (refused cause _ n))

  pub question_sides : (early : ℕ) → early ≡ judge_index_buffers lengths index → early ≡ 0 → judge_sides rows cols ≡ judge_question rows cols lengths index
  unfolding judge_question
  question_sides early e z = sym (passed (judge_index_buffers lengths index) _ (sym e ∙ z) ∙ last (judge_sides rows cols))

  pub ready : (cause : ℕ) → cause ≡ judge_question rows cols lengths index → cause ≡ 0 → Ready rows cols lengths index
  unfolding judge_question
  ready cause e z =
      let n = no_cause _ (sym e ∙ z) in
      let b = buffers_sized lengths index n.0 in
      record { lengths_sized = b.0; index_sized = b.1; sides_fit = sides_in rows cols n.1.0 }

  -- ---- asking

  module _ (i first end : ℕ) (cause : ℕ) (judged : cause ≡ judge_question rows cols lengths index) where
    pub asked_refused : cause ≢ 0 → turned_away cause ≡ ask_index rows cols lengths index i first end
    unfolding ask_index
    asked_refused n = rw (← judged, ne_eqb cause 0 n)

    module _ (none : cause ≡ 0) where
      pub asked_no_row : rows ≤ i → no_column ≡ ask_index rows cols lengths index i first end
      unfolding ask_index
      asked_no_row h = rw (← judged, eq-eqb cause 0 none, le-ltb i rows h)

      module _ (row : i < rows) where
        pub asked_empty : end ≤ first → no_column ≡ ask_index rows cols lengths index i first end
        unfolding ask_index
        asked_empty h = rw (← judged, eq-eqb cause 0 none, lt-ltb i rows row, le-ltb first end h)

        pub asked_leaves : first < end → cols < end → no_column ≡ ask_index rows cols lengths index i first end
        unfolding ask_index
        asked_leaves some h = rw (← judged, eq-eqb cause 0 none, lt-ltb i rows row, lt-ltb first end some, lt-leb end cols h)

        -- a question that is answered asks the lent index
        asked_whole : first < end → end ≤ cols → ask_index rows cols lengths index i first end ≡ least_found (ask cols (rectangle_of lengths i) index first end (index_row_places * i) 0 cols)
        unfolding ask_index
        asked_whole some inside = rw (← judged, eq-eqb cause 0 none, lt-ltb i rows row, lt-ltb first end some, le-leb end cols inside)

        -- what is found in the row and in its part of the index, as they were loaded
        pub asked_found : (line held : List ℕ) (c : ℕ) → first < end → end ≤ cols → line ≡ grid_row lengths i → held ≡ held_row index i
            → by c (lengths_in line c) ≡ ask cols (lengths_in line) held first end 0 0 cols → a_column c ≡ ask_index rows cols lengths index i first end
        unfolding grid_row
        asked_found line held c some inside e f q =
            let s = (ready cause judged none).sides_fit in
            let moved = ask_moved (lengths_in line) held index first end cols 0 (index_row_places * i) 0 cols s.cols_some (omega arith) (λ j l. let z : 0 + j ≡ j = omega arith in rw (z, f) (held_placed index i j (omega (arith, s.cols_few)))) in
            let same = ask_same (lengths_in line) (rectangle_of lengths i) index first end cols (index_row_places * i) 0 cols s.cols_some (omega arith) (λ k a b. rw e (get_or_each (rectangle_of lengths i) row_places k 0 (omega (arith, s.cols_few)))) in
            ap least_found (q ∙ moved ∙ same) ∙ sym (asked_whole some inside)

-- ---- a question to an index as built

module _ (rows cols : ℕ) (lengths before : List ℕ) (done : (build_index rows cols lengths before).number ≡ 0) where
  accepted_index : judge_index rows cols lengths before ≡ 0
  accepted_index = go (equality (judge_index rows cols lengths before) 0)
    where
      go : Equal (judge_index rows cols lengths before) 0 → judge_index rows cols lengths before ≡ 0
      go (equal _ h) = h
      go (differ _ h) = absurd (h (sym (ap (λ (r : AfterIndex). r.number) (refusal rows cols lengths before _ refl h)) ∙ done))

  -- the buffers and the rectangle that were accepted
  parts : (judge_index_buffers lengths before ≡ 0) × (judge_rectangle rows cols (rectangle_of lengths) ≡ 0)
  unfolding judge_index
  parts = let n = no_cause _ accepted_index in (n.0, n.1.0)

  index_is : (build_index rows cols lengths before).index ≡ index_of (rectangle_of lengths) rows cols
  index_is = ap (λ (r : AfterIndex). r.index) (built_done rows cols lengths before _ refl parts.0 _ refl parts.1)

  sides_none : judge_sides rows cols ≡ 0
  unfolding judge_rectangle
  sides_none = (no_cause _ parts.1).0

  module _ (index : List ℕ) (built : index ≡ (build_index rows cols lengths before).index) where
    held : index ≡ index_of (rectangle_of lengths) rows cols
    held = built ∙ index_is

    -- such an index is not refused
    question_none : 0 ≡ judge_question rows cols lengths index
    question_none =
        let s = sides_in rows cols sides_none in
        let sized : length index ≡ index_places = ap length held ∙ length_index (rectangle_of lengths) cols s.cols_few rows s.rows_few in
        sym sides_none ∙ question_sides rows cols lengths index 0 (buffers_fit lengths index (buffers_sized lengths before parts.0).0 sized) refl

    pub built_least : (i first end : ℕ) → PlainLeast rows cols lengths i first end (ask_index rows cols lengths index i first end)
    built_least i first end = record {
      some = found;
      no_row = λ h. sym (asked_no_row rows cols lengths index i first end 0 question_none refl h);
      empty = λ h. none_empty (order i rows) h;
      leaves = λ h. none_leaves (order i rows) (order first end) h;
    }
      where
        none_empty : Order i rows → end ≤ first → ask_index rows cols lengths index i first end ≡ no_column
        none_empty (less _ row) h = sym (asked_empty rows cols lengths index i first end 0 question_none refl row h)
        none_empty (more _ row) h = sym (asked_no_row rows cols lengths index i first end 0 question_none refl row)

        none_leaves : Order i rows → Order first end → cols < end → ask_index rows cols lengths index i first end ≡ no_column
        none_leaves (less _ row) (less _ some) h = sym (asked_leaves rows cols lengths index i first end 0 question_none refl row some h)
        none_leaves (less _ row) (more _ few) h = none_empty (order i rows) few
        none_leaves (more _ row) _ h = sym (asked_no_row rows cols lengths index i first end 0 question_none refl row)

        found : i < rows → first < end → end ≤ cols → (c : ℕ) × (ask_index rows cols lengths index i first end ≡ a_column c) × IsLeast (rectangle_of lengths i) first end c
        found row some inside =
            let s = sides_in rows cols sides_none in
            let e = rectangle_of lengths i in
            let placed : HeldAt index (index_row_places * i) (held_from e 0 cols) = rw held (row_placed (rectangle_of lengths) cols s.cols_few rows i s.rows_few row) in
            let least = ask_least e index first end (index_row_places * i) 0 cols (omega arith) some (omega arith) placed in
            let f = least_some e first (end - first) (omega arith) in
            (f.column, asked_whole rows cols lengths index i first end 0 question_none refl row some inside ∙ ap least_found (least ∙ f.here), least_in_lem e first end f.column (e f.column) some f.here)

-- an answer, in plain terms
pub answered : (rows cols : ℕ) (lengths index : List ℕ) (i first end : ℕ) (r : Least) → r ≡ ask_index rows cols lengths index i first end
    → (before : List ℕ) → (build_index rows cols lengths before).number ≡ 0 → index ≡ (build_index rows cols lengths before).index → PlainLeast rows cols lengths i first end r
answered rows cols lengths index i first end r e before done built = rw e (built_least rows cols lengths before done index built i first end)
