-- `small_rows` fills a row a turn: after r turns the first r rows are filled.
use Rattle.std.proofs.Common.{arith, rules}
use Rattle.index.specs.HeldRows.{fill_rows}
use Rattle.index.specs.HeldLaws.{each_start, each_turn, each_done}
use Rattle.index.proofs.small_rows.Invariants.{fill}
use Rattle.index.proofs.small_rows.Goals as goal

pub loop-r-init : goal.loop-r-init
loop-r-init c = let a = c.args in let s = a.stretch in record { tall = search rules; filled = each_start (fill a.at s.start s.count) c.args.index.now c.args.rows.now }

pub loop-r-preserved : goal.loop-r-preserved
loop-r-preserved c =
    let a = c.args in
    let s = a.stretch in
    let l = c.loop-r in
    record { tall = search rules; filled = each_turn (fill a.at s.start s.count) a.index.now a.rows.now l.index l.r l.invariant.filled _ (omega arith) (omega arith) c.fill_small.ensures }

pub returns : goal.returns
unfolding fill_rows
returns c =
    let a = c.args in
    let s = a.stretch in
    let l = c.loop-r in
    each_done (fill a.at s.start s.count) a.index.now a.rows.now l.index l.r l.invariant.filled (omega arith)
