-- `all_agree`: the rows are the places of the scan.
use borrow.Author.Rules.{rules}
use Rattle.monge_laws.specs.Neighbours.{is_open_row}
use Rattle.monge_laws.specs.ReversedColumns.{agree_by, rows_agree}
use Rattle.monge.specs.Matrix.{rows_from}
use Rattle.monge.proofs.Rows.all_agree.Goals as goal

pub returns : goal.returns
unfolding rows_agree agree_by
returns c =
    let a = c.args in
    let e = rows_from a.self.now.lengths.now a.self.now.first in
    c.neighbours_agree.ensures (is_open_row e a.self.now.cols) (agree_by a.exchange e a.self.now.cols) (λ l b h t. search rules) (λ k l b h m t. search rules)
