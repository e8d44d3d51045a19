-- `two_agree`: the columns are the places of the scan.
use borrow.Author.Rules.{rules}
use Rattle.definitions.specs.Monge.{corners}
use Rattle.monge_laws.specs.Neighbours.{is_open_column, agree}
use Rattle.monge.specs.Matrix.{rows_from}
use Rattle.monge.proofs.Rows.two_agree.Goals as goal

pub returns : goal.returns
unfolding agree
returns c =
    let a = c.args in
    let e = rows_from a.self.now.lengths.now a.self.now.first in
    c.neighbours_agree.ensures (is_open_column e a.i a.j) (corners e a.i a.j) (λ l b h t. search rules) (λ k l b h m t. search rules)
