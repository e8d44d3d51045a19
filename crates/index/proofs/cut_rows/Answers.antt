-- `cut_rows` fills a place of a row a turn: after r turns it is filled in the first r rows.
use Rattle.std.proofs.Common.{arith, rules}
use Rattle.index.specs.HeldLaws.{cut_row, each_start, each_here, each_turn, each_done}
use Rattle.index.proofs.cut_rows.Goals as goal

pub loop-r-init : goal.loop-r-init
loop-r-init c = let a = c.args in let s = a.stretch in record { tall = search rules; cut = each_start (cut_row a.at s.start s.count) c.args.index.now c.args.rows.now }

-- the row whose turn it is has its halves still
pub fill_cut-requires-clause-halves : goal.fill_cut-requires-clause-halves
fill_cut-requires-clause-halves c =
    let a = c.args in
    let s = a.stretch in
    let l = c.loop-r in
    rw (each_here (cut_row a.at s.start s.count) a.index.now a.rows.now l.index l.r l.invariant.cut) (c.requires.halves l.r (omega arith))

pub loop-r-preserved : goal.loop-r-preserved
loop-r-preserved c =
    let a = c.args in
    let s = a.stretch in
    let l = c.loop-r in
    record { tall = search rules; cut = each_turn (cut_row a.at s.start s.count) a.index.now a.rows.now l.index l.r l.invariant.cut _ (omega arith) (omega arith) c.fill_cut.ensures }

pub returns : goal.returns
returns c =
    let a = c.args in
    let s = a.stretch in
    let l = c.loop-r in
    each_done (cut_row a.at s.start s.count) a.index.now a.rows.now l.index l.r l.invariant.cut (omega arith)
