-- `judge_blocks`: the buffer, the size, then the blocks of the table in place of those of the piece.
use mathlib.Core.Path.{◌≡◌, refl, sym, ◌∙◌}
use mathlib.Core.Bool.{true, cond}
use mathlib.Core.List.{List}
use Prim.Native.Nat.{ℕ, ◌+◌, ◌≤◌}
use native.Mathlib.Omega.{arith}
use borrow.Author.Rules.{rules}
use borrow.Author.Tests.{le-leb, eqb-true}
use Rattle.definitions.specs.Limits.{max_size, table_places}
use Rattle.definitions.specs.Lists.{every}
use Rattle.definitions.specs.Network.{size_of}
use Rattle.definitions.specs.Blocks.{windows_of}
use Rattle.definitions.specs.Judgement.{judge_size, judge_blocks}
use Rattle.definitions.specs.Entries.{has_places}
use Rattle.definitions.proofs.Laws.CauseLaws.{size_in_lem, test_holds}
use Rattle.basics.specs.Sequences.{length_up_from}
use Rattle.monge.specs.Matrix.{lies_in, passes_in, table_monge_in}
use Rattle.judgements.specs.LentPieces.{table_in, judge_table}
use Rattle.judgements.specs.PieceJudgement.{blocks_windows}
use Rattle.judgements.proofs.OneAfterAnother.{first_is, next_is, last_is}
use Rattle.judgements.proofs.judge_blocks.Goals as goal

module _ (m : ℕ) (lengths : List ℕ) (full : has_places table_places lengths ≡ true) (size : judge_size m ≡ 0) where
  inside : (1 ≤ m) × (m ≤ max_size)
  inside = size_in_lem m size

  within : table_monge_in lengths m ≡ every (passes_in lengths) (windows_of m)
  unfolding table_monge_in lies_in
  within = rw (full, le-leb (0 + m) max_size (omega (arith, inside)))

  judged : judge_blocks (table_in m lengths) ≡ cond (table_monge_in lengths m) 0 7
  unfolding table_in judge_blocks size_of has_places
  judged = rw (within, blocks_windows m lengths (table_in m lengths) (length_up_from 1 m) refl inside.1 (eqb-true _ _ full))

pub returns-in_err-require : goal.returns-in_err-require
unfolding judge_table has_places
returns-in_err-require c = search (rules, first_is)

pub returns-in_err-judge_size : goal.returns-in_err-judge_size
unfolding judge_table has_places
returns-in_err-judge_size c = search (rules, first_is, next_is)

pub returns : goal.returns
unfolding judge_table has_places
returns c =
    let full = test_holds _ 0 (sym c.in_ok-require.ensures) in
    let size = c.in_ok-judge_size.ensures in
    next_is _ _ _ c.in_ok-require.ensures (next_is _ _ _ size (last_is _ _ (c.require-2.ensures ∙ rw (c.table_is_monge.ensures, judged _ _ full (sym size)))))
