-- `Numbers::new`: what calls of `next` give is a law.
use Rattle.replay_text.proofs.Runs.{numbers_run}
use Rattle.replay_text.proofs.Numbers.new.Goals as goal

pub returns-clause-runs : goal.returns-clause-runs
returns-clause-runs c = λ run seen. search (numbers_run run seen)
