-- The judgement of a lent rectangle, in the order in which the programs test.
--   row_fits lengths_fit judge_lengths        its sides and its lengths
--   first_append                           the causes of two lists
--   judged_rectangle                       then comes the inequality
--   judged_early judged_block judged_whole   the number of the whole, from these
--   Sides sides_in Lengths lengths_in_lem      what a rectangle that passes these may rely on
--   AcceptedRectangle accepted_rectangle   what one that passes all may rely on
use Rattle.std.specs.Prelude.{◌≡◌, refl, Bool, true, false, ◌&&◌, ◌≢◌, ℕ, ◌≤◌, ◌<◌, eqb}
use Rattle.std.proofs.Common.{◌∙◌, eq-eqb, ne_eqb}
use Rattle.std.proofs.Math.Path.{ap}
use Rattle.std.proofs.Math.Bool.{cond}
use mathlib.Core.List.{List, [], ◌∷◌, ◌++◌}
use Rattle.definitions.specs.Limits.{max_side, max_length}
use Rattle.definitions.specs.Lists.{all, within, first_cause}
use Rattle.definitions.specs.Metres.{IsNumber, is_length}
use Rattle.definitions.specs.Monge.{is_monge}
use Rattle.definitions.specs.Entries.{rectangle_of, judge_sides, judge_rectangle}
use Rattle.definitions.proofs.Laws.CauseLaws.{last, no_cause, test_holds, within_is, length_short}
use Rattle.definitions.proofs.Laws.Members.{all_at}
use Rattle.logic.specs.Tests.{and_left, and_right, Equal, equal, differ, equality}

unfoldable pub row_fits : List ℕ → ℕ → ℕ → Bool
row_fits lengths cols i = all (λ k. is_length (rectangle_of lengths i k)) cols

unfoldable pub lengths_fit : List ℕ → ℕ → ℕ → Bool
lengths_fit lengths rows cols = all (row_fits lengths cols) rows

-- the sides and the lengths: what is judged before the inequality
unfoldable pub judge_lengths : ℕ → ℕ → List ℕ → ℕ
judge_lengths rows cols lengths =
    first_cause (judge_sides rows cols
    ∷ cond (all (λ i. all (λ k. is_length (rectangle_of lengths i k)) cols) rows) 0 6
    ∷ [])

-- the causes of two lists, one behind the other
pub first_append : (xs ys : List ℕ) → first_cause (xs ++ ys) ≡ cond (eqb (first_cause xs) 0) (first_cause ys) (first_cause xs)
unfolding first_cause
first_append [] ys = refl
first_append (x ∷ xs) ys = go (equality x 0) (first_append xs ys)
  where
    go : Equal x 0 → first_cause (xs ++ ys) ≡ cond (eqb (first_cause xs) 0) (first_cause ys) (first_cause xs)
        → first_cause (x ∷ (xs ++ ys)) ≡ cond (eqb (first_cause (x ∷ xs)) 0) (first_cause ys) (first_cause (x ∷ xs))
    go (equal t q) ih = rw t ih
    go (differ t q) ih = rw (t, t)

-- ---- the sides

pub record Sides (rows cols : ℕ) : Type 0 where
  pub rows_some : 1 ≤ rows
  pub rows_few : rows ≤ max_side
  pub cols_some : 1 ≤ cols
  pub cols_few : cols ≤ max_side

pub sides_in : (rows cols : ℕ) → judge_sides rows cols ≡ 0 → Sides rows cols
unfolding judge_sides
sides_in rows cols h =
    let t = test_holds (within max_side rows && within max_side cols) 3 h in
    let r = within_is max_side rows (and_left (within max_side rows) (within max_side cols) t) in
    let c = within_is max_side cols (and_right (within max_side rows) (within max_side cols) t) in
    record { rows_some = r.0; rows_few = r.1; cols_some = c.0; cols_few = c.1 }

module _ (rows cols : ℕ) (lengths : List ℕ) where
  abbrev Passes : Bool
  Passes = is_monge (rectangle_of lengths) rows cols

  abbrev Early : ℕ
  Early = judge_lengths rows cols lengths

  abbrev Whole : ℕ
  Whole = judge_rectangle rows cols (rectangle_of lengths)

  -- ---- the lengths

  -- the sides are within their limits, and so are the lengths that are numbers
  pub record Lengths : Type 0 where
    pub sides_fit : Sides rows cols
    pub short : (i k : ℕ) → i < rows → k < cols → IsNumber (rectangle_of lengths i k) → rectangle_of lengths i k ≤ max_length

  pub lengths_in_lem : Early ≡ 0 → Lengths
  unfolding judge_lengths
  lengths_in_lem e =
      let n = no_cause _ e in
      record {
        sides_fit = sides_in rows cols n.0;
        short = λ i k l r. length_short (rectangle_of lengths i k) (all_at (λ k. is_length (rectangle_of lengths i k)) cols (all_at (λ i. all (λ k. is_length (rectangle_of lengths i k)) cols) rows (test_holds _ 5 n.1.0) i l) k r);
      }

  -- ---- the inequality

  -- it is judged where nothing else turned the rectangle away
  pub judged_rectangle : Whole ≡ cond (eqb Early 0) (cond Passes 0 7) Early
  unfolding judge_rectangle judge_lengths
  judged_rectangle =
      let early = judge_sides rows cols ∷ cond (all (λ i. all (λ k. is_length (rectangle_of lengths i k)) cols) rows) 0 6 ∷ [] in
      first_append early (cond Passes 0 7 ∷ []) ∙ ap (λ x. cond (eqb (first_cause early) 0) x (first_cause early)) (last (cond Passes 0 7))

  pub judged_early : (cause : ℕ) → cause ≡ Early → cause ≢ 0 → cause ≡ Whole
  judged_early cause e n = rw (judged_rectangle, ← e, ne_eqb cause 0 n)

  pub judged_block : (cause : ℕ) → cause ≡ Early → cause ≡ 0 → Passes ≡ false → 7 ≡ Whole
  judged_block cause e z f = rw (judged_rectangle, ← e, eq-eqb cause 0 z, f)

  pub judged_whole : (cause : ℕ) → cause ≡ Early → cause ≡ 0 → Passes ≡ true → 0 ≡ Whole
  judged_whole cause e z f = rw (judged_rectangle, ← e, eq-eqb cause 0 z, f)

  -- the inequality holds too
  pub record AcceptedRectangle : Type 0 where
    pub within_limits : Lengths
    pub monge : Passes ≡ true

  pub accepted_rectangle : Whole ≡ 0 → AcceptedRectangle
  accepted_rectangle w = go (equality Early 0)
    where
      go : Equal Early 0 → AcceptedRectangle
      go (equal t q) = record { within_limits = lengths_in_lem q; monge = test_holds _ 6 (rw (judged_rectangle, t) at w) }
      go (differ t q) = absurd (q (rw (judged_rectangle, t) at w))
