-- `Numbers::fill_rows`: one row more holds its numbers, and is kept behind them.
use Rattle.std.proofs.Common.{rules}
use Rattle.std.proofs.lemmas.List.{drop-drop, get_or_append_left}
use Rattle.replay_text.specs.TextNumbers.{numbers_left}
use Rattle.replay_text.proofs.Behind.{behind_both}
use Rattle.replay_text.proofs.Rows.{held_more, kept_behind, kept_more, kept_whole}
use Rattle.replay_text.proofs.Numbers.fill_rows.Goals as goal

pub loop-row-preserved : goal.loop-row-preserved
loop-row-preserved g c =
    let cols = c.args.cols in
    let i = c.loop-row.row-index in record {
      others = search (rules, drop-drop);
      text = search (rules, behind_both);
      filled = held_more _ _ (numbers_left c.args.self.now) i cols (search rules) (λ j d. search (rules, get_or_append_left, c.fill.ensures.filled j)) c.loop-row.invariant.filled;
      kept = kept_more _ _ _ i cols (search rules) (λ j far. search (rules, kept_behind)) c.loop-row.invariant.kept;
    }

pub returns-clause-kept : goal.returns-clause-kept
returns-clause-kept g c _ _ = kept_whole _ _ c.args.rows c.loop-row.row-index c.args.cols (search rules) (search rules) (search rules) c.loop-row.invariant.kept
