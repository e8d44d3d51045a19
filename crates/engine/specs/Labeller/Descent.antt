-- The descent of the halving: a vertex of a piece is activated in the blocks of the piece that have it as a row, one for each level.
--   block_in Stands                                what is given: the piece, its blocks, the vertex's place
--   Descended                                     what the blocks are on the way down
--   descent_begun descent_done                    the beginning and the end
--   own_row descent_half                          one level: the half of the stretch that has the place
use Rattle.std.specs.Prelude.{◌≡◌, refl, List, ◌⊎◌, ◌≢◌, ℕ, pred, ◌+◌, ◌-◌, ◌*◌, ◌≤◌, ◌<◌, get_or, length, set}
use Rattle.std.proofs.Common.{sym, ◌∙◌, inl, inr, ⊎_elim, arith, length-set, get_or-set_same, get_or-set_other}
use Rattle.std.proofs.Math.Option.{none, some}
use Rattle.definitions.specs.Limits.{max_size}
use Rattle.definitions.specs.Network.{Piece, size_of}
use Rattle.definitions.specs.Blocks.{Window, windows_of, block_of}
use Rattle.definitions.specs.Labelling.{BlockState, activation, apply, place_of, activate_vertex, no_block_state}
use Rattle.logic.specs.Tests.{split_at, Equal, equal, differ, equality}
use Rattle.basics.specs.ListLaws.{Different, every_at}
use Rattle.splits.specs.Windows.{Inside}
use Rattle.splits.proofs.Windows.{windows_inside}
use Rattle.preparation.specs.Placements.{length_windows_of}
use Rattle.preparation.specs.Numbering.{no_window}
use Rattle.preparation.specs.Stretches.{Stretch, stretch_whole, stretch_fits}
use Rattle.preparation.specs.BlockRows.{row_inside, row_outside}
use Rattle.labelling_laws.proofs.LoopLaws.{activated_none, activated_one_lem}
use Rattle.engine.specs.declared.labelling.Half.{Half}
use Rattle.engine.specs.Labeller.Insertions.{inserted_in, inserted_set}
use Rattle.engine.specs.Labeller.Halves.{half_of, Halved, halved, Misses, Level, level}

-- block j of the piece whose first block is `first`
abbrev pub block_in : ℕ → List BlockState → ℕ → BlockState
block_in first ss j = get_or ss (first + j) no_block_state

-- A vertex v, at place i of the piece q, whose blocks are those of ss from `first` on.
pub record Stands (q : Piece) (first : ℕ) (ss : List BlockState) (v i : ℕ) : Type 0 where
  pub small : size_of q ≤ max_size
  pub apart : Different q.vertices
  pub inside : i < size_of q
  pub here : get_or q.vertices i 0 ≡ v
  pub fits : first + 2 * pred (size_of q) ≤ length ss
  pub blocks_are : (j : ℕ) → j < 2 * pred (size_of q) → (block_in first ss j).block.rows ≡ (block_of 0 q (get_or (windows_of (size_of q)) j no_window)).rows

-- ss before, ss' on the way: the stretch of k places from `start` on has the place i, its windows are those from number s on, and their blocks
-- are as they were; v is activated with label l in the other blocks of the piece that have it as a row. So many intervals are inserted.
pub record Descended (q : Piece) (first v i l : ℕ) (ss : List BlockState) (s start k : ℕ) (ss' : List BlockState) (inserted : ℕ) : Type 0 where
  pub stretch : Stretch (windows_of (size_of q)) s start k
  pub low : start ≤ i
  pub high : i < start + k
  pub long : length ss' ≡ length ss
  pub others : (b : ℕ) → (b < first) ⊎ (first + 2 * pred (size_of q) ≤ b) → get_or ss' b no_block_state ≡ get_or ss b no_block_state
  pub done : (j : ℕ) → j < 2 * pred (size_of q) → (j < s) ⊎ (s + 2 * pred k ≤ j) → block_in first ss' j ≡ activate_vertex v l (block_in first ss j)
  pub still : (j : ℕ) → s ≤ j → j < s + 2 * pred k → block_in first ss' j ≡ block_in first ss j
  pub counted : inserted_in ss' ≡ inserted_in ss + inserted

module _ (q : Piece) (first v i l : ℕ) (ss : List BlockState) (h : Stands q first ss v i) where
  abbrev m : ℕ
  m = size_of q

  abbrev window : ℕ → Window
  window j = get_or (windows_of m) j no_window

  pub descent_begun : Descended q first v i l ss 0 0 m ss 0
  descent_begun = record {
    stretch = stretch_whole m;
    low = omega arith;
    high = omega (arith, h.inside);
    long = refl;
    others = λ b o. refl;
    done = λ j a o. ⊎_elim (λ (x : j < 0). absurd (omega arith)) (λ (x : 0 + 2 * pred m ≤ j). absurd (omega arith)) o;
    still = λ j a b. refl;
    counted = omega arith;
  }

  window_inside : (j : ℕ) → j < 2 * pred m → Inside m (window j)
  window_inside j r = every_at (Inside m) (windows_of m) (windows_inside m h.small) j no_window (omega (arith, length_windows_of m h.small))

  -- the block at a window of the piece: its row where i is one of the rows, else none
  has_row : (j : ℕ) → j < 2 * pred m → (window j).row0 ≤ i → i < (window j).row0 + (window j).rows → place_of v 0 (block_in first ss j).block.rows ≡ some (i - (window j).row0)
  has_row j r a b = rw (h.blocks_are j r) (row_inside 0 q (window j) (window_inside j r).rows_in h.apart v i h.inside h.here a b)

  no_row : (j : ℕ) → j < 2 * pred m → Misses (window j) i → place_of v 0 (block_in first ss j).block.rows ≡ none
  no_row j r o = rw (h.blocks_are j r) (row_outside 0 q (window j) (window_inside j r).rows_in h.apart v i h.inside h.here o)

  module _ (s start k : ℕ) (ss' : List BlockState) (n : ℕ) (d : Descended q first v i l ss s start k ss' n) where
    few : s + 2 * pred k ≤ 2 * pred m
    few = omega (arith, stretch_fits (windows_of m) s start k d.stretch, length_windows_of m h.small)

    -- the half that has the place: the block with its places as rows has v as a row, the others outside the half do not
    module _ (two : 2 ≤ k) (half : Half) (e : half ≡ half_of s start k i) where
      abbrev g : ℕ
      g = half.own

      abbrev r : ℕ
      r = i - half.start

      in_half : Halved s start k i half
      in_half = halved s start k i d.low d.high two half e

      here : Level (windows_of m) s k i half
      here = level (windows_of m) s start k d.stretch two i half e

      pub own_row : place_of v 0 (block_in first ss g).block.rows ≡ some r
      own_row =
          rw here.row0_is at (has_row g (omega (arith, in_half.after, in_half.up_to, few)) (omega (arith, here.row0_is, in_half.low)) (omega (arith, here.row0_is, here.rows_is, in_half.high)))

      abbrev new : BlockState
      new = apply (block_in first ss' g) (activation r l)

      room : first + g < length ss'
      room = omega (arith, d.long, h.fits, few, in_half.after, in_half.up_to)

      apart : (x : ℕ) → (x < first) ⊎ (first + 2 * pred m ≤ x) → x ≢ first + g
      apart x (inl o) = omega (arith, in_half.from)
      apart x (inr o) = omega (arith, few, in_half.after, in_half.up_to)

      old : (j : ℕ) → s ≤ j → j < s + 2 * pred k → (j < half.windows) ⊎ (half.windows + 2 * pred half.size ≤ j) → j ≢ g → block_in first ss' j ≡ activate_vertex v l (block_in first ss j)
      old j x y o z = d.still j x y ∙ sym (activated_none v l (block_in first ss j) (no_row j (omega (arith, few)) (here.others j x y z o)))

      changed : (j : ℕ) → j < 2 * pred m → (j < half.windows) ⊎ (half.windows + 2 * pred half.size ≤ j) → Equal j g
          → get_or (set ss' (first + g) new) (first + j) no_block_state ≡ activate_vertex v l (block_in first ss j)
      changed j x o (equal t z) =
          rw (z, get_or-set_same ss' (first + g) new no_block_state room, d.still g in_half.from (omega (arith, in_half.after, in_half.up_to)))
          (sym (activated_one_lem v l (block_in first ss g) r own_row))
      changed j x o (differ t z) =
          get_or-set_other ss' (first + g) (first + j) new no_block_state (omega arith)
          ∙ ⊎_elim
          (λ (y : j < s). d.done j x (inl y))
          (λ (y : s ≤ j). ⊎_elim (λ (u : j < s + 2 * pred k). old j y u o z) (λ (u : s + 2 * pred k ≤ j). d.done j x (inr u)) (split_at j (s + 2 * pred k)))
          (split_at j s)

      pub descent_half : (more : ℕ) → new.trace.inserted ≡ (block_in first ss' g).trace.inserted + more
          → Descended q first v i l ss half.windows half.start half.size (set ss' (first + g) new) (n + more)
      descent_half more grown = record {
        stretch = here.stretch;
        low = in_half.low;
        high = in_half.high;
        long = length-set ss' (first + g) new ∙ d.long;
        others = λ x o. get_or-set_other ss' (first + g) x new no_block_state (apart x o) ∙ d.others x o;
        done = λ j x o. changed j x o (equality j g);
        still = λ j x y. get_or-set_other ss' (first + g) (first + j) new no_block_state (omega (arith, in_half.after))
            ∙ d.still j (omega (arith, in_half.from, in_half.after)) (omega (arith, in_half.up_to));
        counted = inserted_set ss' (first + g) new more room grown ∙ omega (arith, d.counted);
      }

    -- a single place has no block: all blocks of the piece are done
    pub descent_done : k ≤ 1 → (j : ℕ) → j < 2 * pred m → block_in first ss' j ≡ activate_vertex v l (block_in first ss j)
    descent_done one j x = d.done j x (⊎_elim (λ (y : j < s). inl y) (λ (y : s ≤ j). inr (omega arith)) (split_at j s))
