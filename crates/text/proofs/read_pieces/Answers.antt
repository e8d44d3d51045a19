-- `read_pieces`: the buffers hold the first d pieces, and the definition reads the others from the place reached on.
use native.Mathlib.Omega.{arith}
use Rattle.text.specs.Returns.{stopped}
use Rattle.text.specs.PieceReading.{pieces_begun, pieces_turn, pieces_broken, pieces_ended}
use Rattle.text.proofs.read_pieces.Goals as goal

pub loop-d-init : goal.loop-d-init
loop-d-init c = pieces_begun _ _ _ _ _ _ _ c.requires.2 c.requires.0

pub returns-in_err-place : goal.returns-in_err-place
returns-in_err-place c =
    let g = c.loop-d.invariant in
    stopped _ _ _ _ c.from_residual.ensures.1 (pieces_broken _ _ _ _ _ _ _ _ _ g c.loop-d-test.true _ (c.in_err-place.ensures g.pieces g.count g.held))

pub loop-d-preserved : goal.loop-d-preserved
loop-d-preserved c =
    let g = c.loop-d.invariant in
    pieces_turn _ _ _ _ _ _ _ _ _ g c.loop-d-test.true _ _ _ _ (c.in_ok-place.ensures g.pieces g.count g.held)

pub returns : goal.returns
returns c = pieces_ended _ _ _ _ _ _ _ _ _ c.loop-d.invariant (omega arith)
