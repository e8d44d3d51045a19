-- A vertex is settled: piece by piece it is activated in the blocks that have it as a row.
--   PieceDone piece_done piece_absent            the blocks of one piece, by the descent or because the piece does not have the vertex
--   Partly partly_begun partly_more partly_all   the blocks of the first pieces
use Rattle.std.specs.Prelude.{◌≡◌, refl, List, map, ◌⊎◌, ◌≢◌, ℕ, pred, ◌+◌, ◌-◌, ◌*◌, ◌≤◌, ◌<◌, get_or, length}
use Rattle.std.proofs.Common.{sym, ap, ◌∙◌, inl, inr, ⊎_elim, arith, ext_get_or}
use Rattle.std.proofs.Math.Option.{none}
use Rattle.std.proofs.lemmas.List.{length-map}
use Rattle.definitions.specs.Limits.{max_size}
use Rattle.definitions.specs.Network.{Piece, size_of}
use Rattle.definitions.specs.Blocks.{windows_of, block_of}
use Rattle.definitions.specs.Labelling.{BlockState, place_of, activate_vertex, no_block_state}
use Rattle.logic.specs.Tests.{split_at}
use Rattle.basics.specs.ListLaws.{every_at}
use Rattle.splits.specs.Windows.{Inside}
use Rattle.splits.proofs.Windows.{windows_inside}
use Rattle.preparation.specs.Placements.{length_windows_of}
use Rattle.preparation.specs.Numbering.{no_window}
use Rattle.preparation.specs.BlockRows.{row_absent}
use Rattle.labelling_laws.proofs.LoopLaws.{activated_at, activated_none}
use Rattle.engine.specs.Labeller.Insertions.{inserted_in}
use Rattle.engine.specs.Labeller.Descent.{block_in, Descended, Stands, descent_done}

-- v is activated with label l in the blocks of a piece of size m, which stand from `first` on
pub record PieceDone (first m v l : ℕ) (ss ss' : List BlockState) (inserted : ℕ) : Type 0 where
  pub long : length ss' ≡ length ss
  pub others : (b : ℕ) → (b < first) ⊎ (first + 2 * pred m ≤ b) → get_or ss' b no_block_state ≡ get_or ss b no_block_state
  pub done : (j : ℕ) → j < 2 * pred m → block_in first ss' j ≡ activate_vertex v l (block_in first ss j)
  pub counted : inserted_in ss' ≡ inserted_in ss + inserted

-- at the end of the descent
pub piece_done : (q : Piece) (first v i l : ℕ) (ss : List BlockState) → Stands q first ss v i → (s start k : ℕ) (ss' : List BlockState) (n : ℕ) → Descended q first v i l ss s start k ss' n → k ≤ 1
    → PieceDone first (size_of q) v l ss ss' n
piece_done q first v i l ss h s start k ss' n d one = record { long = d.long; others = d.others; done = descent_done q first v i l ss h s start k ss' n d one; counted = d.counted }

-- a piece that does not have v
pub piece_absent : (q : Piece) (first v l : ℕ) (ss : List BlockState) → size_of q ≤ max_size
    → ((j : ℕ) → j < 2 * pred (size_of q) → (block_in first ss j).block.rows ≡ (block_of 0 q (get_or (windows_of (size_of q)) j no_window)).rows)
    → ((i : ℕ) → i < size_of q → get_or q.vertices i 0 ≢ v) → PieceDone first (size_of q) v l ss ss 0
piece_absent q first v l ss small are absent = record {
  long = refl;
  others = λ b o. refl;
  done = λ j x.
      let w = get_or (windows_of (size_of q)) j no_window in
      let inside : Inside (size_of q) w = every_at (Inside (size_of q)) (windows_of (size_of q)) (windows_inside (size_of q) small) j no_window (omega (arith, length_windows_of (size_of q) small)) in
      let e : place_of v 0 (block_in first ss j).block.rows ≡ none = rw (are j x) (row_absent 0 q w inside.rows_in v absent) in
      sym (activated_none v l (block_in first ss j) e);
  counted = omega arith;
}

-- the blocks before number `first` are done
pub record Partly (v l : ℕ) (ss : List BlockState) (first : ℕ) (ss' : List BlockState) (inserted : ℕ) : Type 0 where
  pub long : length ss' ≡ length ss
  pub done : (b : ℕ) → b < first → get_or ss' b no_block_state ≡ activate_vertex v l (get_or ss b no_block_state)
  pub still : (b : ℕ) → first ≤ b → get_or ss' b no_block_state ≡ get_or ss b no_block_state
  pub counted : inserted_in ss' ≡ inserted_in ss + inserted

module _ (v l : ℕ) (ss : List BlockState) where
  pub partly_begun : Partly v l ss 0 ss 0
  partly_begun = record { long = refl; done = λ b x. absurd (omega arith); still = λ b x. refl; counted = omega arith }

  pub partly_more : (first m : ℕ) (ss' ss'' : List BlockState) (n more : ℕ) → Partly v l ss first ss' n → PieceDone first m v l ss' ss'' more → Partly v l ss (first + 2 * pred m) ss'' (n + more)
  partly_more first m ss' ss'' n more h d = record {
    long = d.long ∙ h.long;
    done = λ b x. ⊎_elim (λ (y : b < first). d.others b (inl y) ∙ h.done b y) (λ (y : first ≤ b). new b y x) (split_at b first);
    still = λ b x. d.others b (inr x) ∙ h.still b (omega arith);
    counted = omega (arith, d.counted, h.counted);
  }
    where
      new : (b : ℕ) → first ≤ b → b < first + 2 * pred m → get_or ss'' b no_block_state ≡ activate_vertex v l (get_or ss b no_block_state)
      new b y x =
          let e : first + (b - first) ≡ b = omega arith in
          (rw e at (d.done (b - first) (omega arith))) ∙ ap (activate_vertex v l) (h.still b y)

  pub partly_all : (first : ℕ) (ss' : List BlockState) (n : ℕ) → Partly v l ss first ss' n → length ss ≤ first → ss' ≡ map (activate_vertex v l) ss
  partly_all first ss' n h all = ext_get_or no_block_state ss' (map (activate_vertex v l) ss) (h.long ∙ sym (length-map ss (activate_vertex v l)))
      (λ b x. h.done b (omega (arith, h.long)) ∙ sym (activated_at v l ss b))
