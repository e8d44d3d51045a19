-- `fields::fill_columns` meets its contract. The loop's invariant: the columns that are left to fill, before the bytes filled so far, are the
-- whole.
use mathlib.Core.Path.{◌≡◌, sym, ◌∙◌}
use native.Mathlib.Omega.{arith}
use borrow.Author.Rules.{rules}
use Rattle.fields.specs.NineColumns.{columns, columns_last, columns_next}
use Rattle.fields.proofs.fill_columns.Goals as goal

pub loop-i-init : goal.loop-i-init
loop-i-init c = record { long = search rules; filled = columns_last c.args.part.now _ _ c.requires }

pub loop-i-preserved : goal.loop-i-preserved
loop-i-preserved c =
    let l = c.loop-i in
    let next = columns_next l.part l.i l.rest (omega arith) (omega arith) in
    record { long = search rules; filled = rw c.column.ensures (l.invariant.filled ∙ next) }

pub returns : goal.returns
unfolding columns
returns c =
    let l = c.loop-i in
    let none : l.i ≡ 0 = omega arith in
    sym (l.invariant.filled ∙ rw none)
