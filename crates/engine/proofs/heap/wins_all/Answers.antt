-- `wins_all`: nothing is reached, and no column is without a path.
use mathlib.Core.Path.{◌≡◌, refl}
use native.Mathlib.Omega.{arith}
use borrow.Author.Tests.{eqb-true}
use Rattle.logic.specs.Tests.{clash}
use Rattle.engine.proofs.heap.wins_all.Goals as goal

pub returns-then-reached-gt0 : goal.returns-then-reached-gt0
returns-then-reached-gt0 c = λ t. absurd (clash t refl)

pub returns : goal.returns
returns c =
    λ t.
    let z : c.path_turn.result ≡ c.args.block.now.cols = eqb-true _ _ t in
    record {
      fresh = omega (arith, c.reached.ensures.is, c.if-reached-gt0.false);
      paths = λ d l. c.path_turn.ensures.before d (omega arith) (omega (arith, z));
    }
