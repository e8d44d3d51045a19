-- `find_start` leaves the second half or looks up the first; the number of columns falls.
use Rattle.std.proofs.Common.{◌≡◌, inr, ℕ, ◌≤◌, arith}
use Rattle.index.specs.HeldRows.{lengths_in}
use Rattle.index.specs.RowQuestions.{column, asked}
use Rattle.index.specs.Questions.{find_inside, find_whole, find_first, start_both}
use Rattle.index.proofs.Row.+find_start.Goals as goal

pub returns-then-end-clause-least : goal.returns-then-end-clause-least
returns-then-end-clause-least t c m l =
    let a = c.args in
    let s = a.stretch in
    find_whole (lengths_in a.self.lengths.now) a.self.held.now a.at s.start s.count m a.end _ s.some l (omega arith) c.held_column.ensures.held

pub returns-then-end-second-clause-least : goal.returns-then-end-second-clause-least
returns-then-end-second-clause-least t c m l =
    let a = c.args in
    let s = a.stretch in
    let e = c.first_half-first.ensures in
    find_first (lengths_in a.self.lengths.now) a.self.held.now a.at s.start s.count m a.end _ (omega arith) (omega arith) (inr (omega arith)) (omega arith) (rw (e.start, e.count) at (c.find_start.ensures.least m (omega arith)))

pub returns : goal.returns
returns t c =
    let a = c.args in
    let s = a.stretch in
    let e = c.first_half-first.ensures in
    let f = c.second_half-second.ensures in
    let least : (m : ℕ) → m ≤ s.start → column a.self c.find_until.result ≡ asked a.self m a.end a.at s =
    λ m l. start_both (lengths_in a.self.lengths.now) a.self.held.now a.at s.start s.count m a.end c.held_column-2.result _ l (omega arith) (omega arith) (rw (e.start, e.count) at c.held_column-2.ensures.held) (rw (e.count, f.start, f.count) at (c.find_until.ensures m (omega arith))) in
    record { least = least; inside = find_inside (lengths_in a.self.lengths.now) a.self.held.now a.at s.start s.count s.start a.end _ s.some (least s.start (omega arith)) }
