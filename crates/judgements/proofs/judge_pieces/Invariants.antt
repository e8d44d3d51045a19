-- `judge_pieces`: the pieces are judged as those that the loop has not passed, each in its parts of the buffers.
use mathlib.Core.Path.{◌≡◌}
use Prim.Native.Nat.{◌-◌}
use Rattle.definitions.specs.Judgement.{judge_from}
use Rattle.judgements.proofs.judge_pieces.Given as goal

abbrev pub invariant-loop-d : goal.invariant-loop-d
invariant-loop-d l =
    let from = judge_from l.network.n l.network.sizes.now l.network.vertices.now l.network.lengths.now in
    from 0 l.network.p ≡ from l.d (l.network.p - l.d)
