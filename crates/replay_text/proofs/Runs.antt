-- What calls of `next` give, one after the other: the numbers that were left, in order. A caller that is lent a `Numbers` names this law by `using`.
use Rattle.std.proofs.Common.{length, ap}
use Rattle.std.specs.Iterator.Runs.{YieldsInOrder}
use Rattle.std.proofs.iter.runs.Sources.{from_front, as_is}
use Rattle.replay_text.specs.TextNumbers.{Yields, numbers_left}

pub numbers_run : YieldsInOrder Yields numbers_left
numbers_run run seen = as_is run (numbers_left run.from) (from_front Yields (λ x. x) numbers_left (λ s t none. ap length none.0.0) (λ s x t some. some.0) run seen)
