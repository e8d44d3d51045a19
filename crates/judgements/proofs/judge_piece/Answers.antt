-- `judge_piece`: the parts, the size, the vertices, the rows, the blocks, and the first cause of these.
use mathlib.Core.Path.{◌≡◌, refl, sym, ◌∙◌}
use mathlib.Core.Bool.{Bool, true, cond, ◌&&◌}
use mathlib.Core.List.{List}
use Prim.Native.Nat.{ℕ, ◌≤◌}
use native.Mathlib.Omega.{arith}
use borrow.Author.Rules.{rules}
use borrow.Author.Tests.{eqb-true}
use lib.ListN.{length}
use lib.Seq.{length-take-le}
use Rattle.definitions.specs.Limits.{row_places, table_places}
use Rattle.definitions.specs.Network.{size_of}
use Rattle.definitions.specs.Judgement.{judge_piece}
use Rattle.definitions.specs.Entries.{has_places}
use Rattle.definitions.proofs.Laws.CauseLaws.{size_in_lem, test_holds}
use Rattle.logic.specs.Tests.{and_left, and_right}
use Rattle.judgements.specs.LentPieces.{piece_in, judge_piece_in}
use Rattle.judgements.specs.PieceJudgement.{table_blocks}
use Rattle.judgements.proofs.OneAfterAnother.{first_is, next_is, last_is}
use Rattle.judgements.proofs.judge_piece.Goals as goal

module _ (vertices lengths : List ℕ) (b : Bool) (places : b ≡ (has_places row_places vertices && has_places table_places lengths))
    (holds : ◌≡◌ {A = ℕ} 0 (cond b 0 1)) where
  both : (has_places row_places vertices && has_places table_places lengths) ≡ true
  both = sym places ∙ test_holds _ 0 (sym holds)

  broad : length vertices ≡ row_places
  unfolding has_places
  broad = eqb-true _ _ (and_left _ _ both)

  full : length lengths ≡ table_places
  unfolding has_places
  full = eqb-true _ _ (and_right (has_places row_places vertices) (has_places table_places lengths) both)

pub returns-in_err-require : goal.returns-in_err-require
unfolding judge_piece_in has_places
returns-in_err-require c = search (rules, first_is)

pub returns-in_err-judge_size : goal.returns-in_err-judge_size
unfolding judge_piece_in has_places judge_piece
returns-in_err-judge_size c = search (rules, first_is, next_is, last_is)

pub slice_bounds-judge_vertices-end : goal.slice_bounds-judge_vertices-end
unfolding has_places
slice_bounds-judge_vertices-end c =
    let a = c.args in
    let h : a.m ≤ length a.vertices.now = omega (arith, (size_in_lem a.m (sym c.in_ok-judge_size.ensures)).1, broad a.vertices.now a.lengths.now _ (search rules) c.in_ok-require.ensures) in
    sym (length-take-le a.m a.vertices.now h)

pub returns-in_err-judge_vertices : goal.returns-in_err-judge_vertices
unfolding judge_piece_in has_places judge_piece piece_in
returns-in_err-judge_vertices c = search (rules, first_is, next_is, last_is)

pub judge_rows-requires : goal.judge_rows-requires
unfolding has_places
judge_rows-requires c =
    let a = c.args in
    (omega (arith, (size_in_lem a.m (sym c.in_ok-judge_size.ensures)).1), full a.vertices.now a.lengths.now _ (search rules) c.in_ok-require.ensures)

pub returns-in_err-judge_rows : goal.returns-in_err-judge_rows
unfolding judge_piece_in has_places judge_piece piece_in
returns-in_err-judge_rows c = search (rules, first_is, next_is, last_is)

pub returns : goal.returns
unfolding judge_piece_in has_places judge_piece size_of piece_in
returns c =
    let a = c.args in
    let size = c.in_ok-judge_size.ensures in
    let t : c.if-vertices-eq-ROW_PLACES.require ≡ (has_places row_places a.vertices.now && has_places table_places a.lengths.now) = search rules in
    let h : a.m ≤ length a.vertices.now = omega (arith, (size_in_lem a.m (sym size)).1, broad a.vertices.now a.lengths.now _ t c.in_ok-require.ensures) in
    let blocks = table_blocks a.m a.lengths.now (piece_in a.m a.vertices.now a.lengths.now) (full a.vertices.now a.lengths.now _ t c.in_ok-require.ensures) (sym size)
    (length-take-le a.m a.vertices.now h) refl in
    search (rules, next_is, last_is, blocks)
