-- `fill_cut` takes the lesser of the columns that are held for the halves.
use Rattle.std.proofs.Common.{arith}
use Rattle.index.specs.HeldLaws.{cut_first, cut_second, cut_row_lem}
use Rattle.index.proofs.fill_cut.Goals as goal

pub lesser_column-requires : goal.lesser_column-requires
lesser_column-requires c =
    let a = c.args in
    let s = a.stretch in
    let e = c.first_half-first.ensures in
    let f = c.second_half.ensures in
    let l = rw (e.start, e.count) at c.held_of-l.ensures in
    let r = rw (e.count, f.start, f.count) at c.held_of-r.ensures in
    let first = cut_first a.row.now a.held.now a.at s.start s.count _ _ c.requires.sized.0 c.requires.halves l r in
    let second = cut_second a.row.now a.held.now a.at s.start s.count _ _ c.requires.sized.0 c.requires.halves l r in
    (omega arith, omega arith)

pub returns : goal.returns
returns c =
    let a = c.args in
    let s = a.stretch in
    let e = c.first_half-first.ensures in
    let f = c.second_half.ensures in
    cut_row_lem a.row.now a.held.now a.at s.start s.count _ _ c.requires.sized.0 c.requires.halves (rw (e.start, e.count) at c.held_of-l.ensures) (rw (e.count, f.start, f.count) at c.held_of-r.ensures) _ c.lesser_column.ensures.least
