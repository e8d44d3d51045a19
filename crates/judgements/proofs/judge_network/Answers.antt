-- `judge_network`: the buffers, the bounds, then the pieces.
use mathlib.Core.Path.{sym}
use borrow.Author.Rules.{rules}
use Rattle.definitions.specs.Judgement.{judge_network}
use Rattle.definitions.specs.Entries.{judge_lent}
use Rattle.definitions.proofs.Laws.CauseLaws.{bounds_in}
use Rattle.basics.specs.Buffers.{buffers_are}
use Rattle.judgements.proofs.OneAfterAnother.{first_is, next_is, last_is}
use Rattle.judgements.proofs.judge_network.Goals as goal

pub returns-in_err-judge_buffers : goal.returns-in_err-judge_buffers
unfolding judge_lent
returns-in_err-judge_buffers c = search (rules, first_is)

pub returns-in_err-judge_bounds : goal.returns-in_err-judge_bounds
unfolding judge_lent judge_network
returns-in_err-judge_bounds c = search (rules, first_is, next_is, last_is)

pub judge_pieces-requires : goal.judge_pieces-requires
judge_pieces-requires c =
    let h = buffers_are _ _ _ (sym c.in_ok-judge_buffers.ensures) in
    ((bounds_in _ _ (sym c.in_ok-judge_bounds.ensures)).1, h.0, h.1, h.2)

pub returns : goal.returns
unfolding judge_lent judge_network
returns c = search (rules, next_is, last_is)
