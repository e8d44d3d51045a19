-- `find_until` looks up the first half or leaves the second; the number of columns falls.
use Rattle.std.proofs.Common.{arith}
use Rattle.index.specs.HeldRows.{lengths_in}
use Rattle.index.specs.Questions.{until_end, until_first, until_both}
use Rattle.index.proofs.Row.+find_until.Goals as goal

pub returns-then-end : goal.returns-then-end
returns-then-end t c m l =
    let a = c.args in
    let s = a.stretch in
    until_end (lengths_in a.self.lengths.now) a.self.held.now a.at s.start s.count m a.end a.best c.held_column.result _ s.some l (omega arith) c.held_column.ensures.held c.lesser_column.ensures.least

pub returns-then-end-second : goal.returns-then-end-second
returns-then-end-second t c m l =
    let a = c.args in
    let s = a.stretch in
    let e = c.first_half-first.ensures in
    until_first (lengths_in a.self.lengths.now) a.self.held.now a.at s.start s.count m a.end a.best _ (omega arith) l (omega arith) (omega arith) (rw (e.start, e.count) at (c.find_until.ensures m (omega arith)))

pub returns : goal.returns
returns t c m l =
    let a = c.args in
    let s = a.stretch in
    let e = c.first_half-first.ensures in
    let f = c.second_half-second.ensures in
    until_both (lengths_in a.self.lengths.now) a.self.held.now a.at s.start s.count m a.end a.best c.held_column-c.result c.lesser_column-next.result _ l (omega arith) (omega arith) (rw (e.start, e.count) at c.held_column-c.ensures.held) c.lesser_column-next.ensures.least (rw (e.count, f.start, f.count) at (c.find_until-2.ensures m (omega arith)))
