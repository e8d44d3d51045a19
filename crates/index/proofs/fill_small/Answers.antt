-- `fill_small` stores one place for two columns, and two for three.
use Rattle.std.proofs.Common.{arith}
use Rattle.index.specs.HeldLaws.{small_none, small_two, small_three}
use Rattle.index.proofs.fill_small.Goals as goal

pub returns-then-stretch-eq3 : goal.returns-then-stretch-eq3
returns-then-stretch-eq3 c =
    let a = c.args in
    rw c.if-stretch-eq3.true
    (small_three a.row.now a.at a.stretch.start a.held.now _ _ (omega arith) c.lesser_column-x.ensures.least c.lesser_column.ensures.least)

pub returns-then-stretch-eq2 : goal.returns-then-stretch-eq2
returns-then-stretch-eq2 c =
    let a = c.args in
    rw c.if-stretch-eq2.true (small_two a.row.now a.at a.stretch.start a.held.now _ (omega arith) c.lesser_column-then-stretch-eq2.ensures.least)

pub returns-else-stretch-eq2 : goal.returns-else-stretch-eq2
returns-else-stretch-eq2 c =
    let a = c.args in
    small_none a.row.now a.at a.stretch.start a.held.now a.stretch.count (omega arith)
