-- `judge_pieces`: the pieces are judged as those that the loop has not passed, each in its parts of the buffers.
use mathlib.Core.Path.{◌≡◌, refl, sym, ◌∙◌}
use mathlib.Core.List.{List, [], ◌∷◌}
use Prim.Native.Nat.{ℕ, suc, ◌+◌, ◌-◌, ◌*◌, ◌≤◌, ◌<◌}
use native.Mathlib.Nat.{sub-zero, sub_self}
use native.Mathlib.Numerals.{add-one}
use native.Mathlib.Omega.{arith}
use borrow.Author.Rules.{rules}
use borrow.Author.Tests.{eq-eqb}
use lib.ListN.{get_or, length, take, drop, length-drop}
use lib.Seq.{length-take-le}
use Rattle.definitions.specs.Limits.{row_places, table_places}
use Rattle.definitions.specs.Lists.{first_cause}
use Rattle.definitions.specs.Judgement.{judge_piece, judge_from, piece_at}
use Rattle.definitions.specs.Entries.{has_places}
use Rattle.definitions.proofs.Laws.CauseLaws.{passed, last}
use Rattle.judgements.specs.LentPieces.{judge_piece_in}
use Rattle.judgements.specs.PieceJudgement.{piece_lent}
use Rattle.judgements.proofs.OneAfterAnother.{first_is}
use Rattle.judgements.proofs.judge_pieces.Goals as goal

-- a part that lies in its buffer
part_length : (xs : List ℕ) (size d : ℕ) → size * d + size ≤ length xs → length (take size (drop (size * d) xs)) ≡ size
part_length xs size d h = length-take-le size (drop (size * d) xs) (simp length-drop (omega arith))

module _ (n p : ℕ) (sizes vertices lengths : List ℕ) (d : ℕ) (l : d < p) (broad : row_places * d + row_places ≤ length vertices)
    (full : table_places * d + table_places ≤ length lengths) where
  piece : judge_piece_in n (get_or sizes d 0) (take (row_places * d + row_places - row_places * d) (drop (row_places * d) vertices))
      (take (table_places * d + table_places - table_places * d) (drop (table_places * d) lengths))
      ≡ judge_piece n (get_or sizes d 0) (piece_at sizes vertices lengths d)
  unfolding judge_piece_in has_places
  piece =
      let a : row_places * d + row_places - row_places * d ≡ row_places = omega arith in
      let b : table_places * d + table_places - table_places * d ≡ table_places = omega arith in
      rw (a, b, eq-eqb _ _ (part_length vertices row_places d broad), eq-eqb _ _ (part_length lengths table_places d full)) (passed 0 _ refl ∙ last _)
      ∙ sym (piece_lent n sizes vertices lengths d)

  -- what is left begins with the piece that is judged
  next : judge_from n sizes vertices lengths d (p - d)
      ≡ first_cause (judge_piece_in n (get_or sizes d 0) (take (row_places * d + row_places - row_places * d) (drop (row_places * d) vertices))
      (take (table_places * d + table_places - table_places * d) (drop (table_places * d) lengths)) ∷ judge_from n sizes vertices lengths (d + 1) (p - (d + 1)) ∷ [])
  unfolding judge_from
  next = let f : p - d ≡ suc (p - (d + 1)) = omega arith in rw (f, piece, add-one d)

pub loop-d-init : goal.loop-d-init
loop-d-init c = rw (sub-zero c.args.network.now.p)

pub returns-in_err-judge_piece : goal.returns-in_err-judge_piece
returns-in_err-judge_piece c =
    let w = c.args.network.now in
    rw (c.loop-d.invariant, next _ _ w.sizes.now w.vertices.now w.lengths.now c.loop-d.d c.loop-d-test.true (omega arith) (omega arith)) (search (rules, first_is))

pub loop-d-preserved : goal.loop-d-preserved
loop-d-preserved c =
    let w = c.args.network.now in
    c.loop-d.invariant ∙ next _ _ w.sizes.now w.vertices.now w.lengths.now c.loop-d.d c.loop-d-test.true (omega arith) (omega arith) ∙ passed _ _ (sym c.in_ok-judge_piece.ensures) ∙ last _

pub returns : goal.returns
unfolding judge_from
returns c =
    let e : c.loop-d.d ≡ c.args.network.now.p = omega arith in
    rw (c.loop-d.invariant, e, sub_self c.args.network.now.p)
