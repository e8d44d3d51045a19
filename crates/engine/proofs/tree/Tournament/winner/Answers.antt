-- `Tournament::winner` meets its contract: the word at 1 is the key of what `least_from` finds, and its sum fits 32 bits.
use native.Mathlib.Omega.{arith}
use Rattle.engine.specs.Tree.Root.{winner_nothing, winner_block, sum_fits}
use Rattle.engine.proofs.tree.Tournament.winner.Goals as goal

pub returns-then-x : goal.returns-then-x
returns-then-x c = winner_nothing _ c.if-x.true

pub overflow_cast-sum : goal.overflow_cast-sum
overflow_cast-sum c = let p = c.requires in omega (arith, sum_fits _ p.0 p.1 c.if-x.false)

pub returns : goal.returns
returns c = winner_block _ c.if-x.false
