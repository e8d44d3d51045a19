-- `find_from` leaves the first half or looks up the second; the number of columns falls.
use Rattle.std.proofs.Common.{arith}
use Rattle.index.specs.HeldRows.{lengths_in}
use Rattle.index.specs.Questions.{from_end, from_second, from_both}
use Rattle.index.proofs.Row.+find_from.Goals as goal

pub returns-then-begin-stretch : goal.returns-then-begin-stretch
returns-then-begin-stretch t c m l =
    let a = c.args in
    let s = a.stretch in
    from_end (lengths_in a.self.lengths.now) a.self.held.now a.at s.start s.count a.begin m a.best c.held_column.result _ s.some c.if-begin-stretch.true l c.held_column.ensures.held c.lesser_column.ensures.least

pub returns-then-second-begin : goal.returns-then-second-begin
returns-then-second-begin t c m l =
    let a = c.args in
    let s = a.stretch in
    let e = c.first_half-first.ensures in
    let f = c.second_half-second.ensures in
    from_second (lengths_in a.self.lengths.now) a.self.held.now a.at s.start s.count a.begin m a.best _ c.if-begin-stretch.false (omega arith) l (omega arith) (rw (e.count, f.start, f.count) at (c.find_from.ensures m (omega arith)))

pub returns : goal.returns
returns t c m l =
    let a = c.args in
    let s = a.stretch in
    let e = c.first_half-first.ensures in
    let f = c.second_half-second.ensures in
    from_both (lengths_in a.self.lengths.now) a.self.held.now a.at s.start s.count a.begin m a.best c.held_column-c.result c.lesser_column-next.result _ c.if-begin-stretch.false (omega arith) l (rw (e.count, f.start, f.count) at c.held_column-c.ensures.held) c.lesser_column-next.ensures.least (rw (e.start, e.count) at (c.find_from-2.ensures m (omega arith)))
