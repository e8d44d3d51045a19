-- `find` calls itself on the half that is asked for; the number of columns falls. Where both halves are, the second gives a best for the first.
use Rattle.std.proofs.Common.{◌≡◌, inl, inr, ℕ, ◌+◌, ◌≤◌, ◌<◌, arith}
use Rattle.std.specs.Prelude.{◌⊎◌}
use Rattle.index.specs.HeldRows.{lengths_in}
use Rattle.index.specs.Questions.{find_inside, find_whole, find_first, find_second, find_both}
use Rattle.index.proofs.Row.+find.Goals as goal

-- not all columns are asked for
cut : (s k a b e : ℕ) → e ≡ s + k → ((a ≤ s) × (b < e)) ⊎ (s < a) → (s < a) ⊎ (b < s + k)
cut s k a b e h (inl l) = let m = l.1 in inr (omega arith)
cut s k a b e h (inr r) = inl r

pub returns-then-behind-end-clause-least : goal.returns-then-behind-end-clause-least
returns-then-behind-end-clause-least t c =
    let a = c.args in
    let s = a.stretch in
    find_whole (lengths_in a.self.lengths.now) a.self.held.now a.at s.start s.count a.begin a.end _ s.some c.if-begin-stretch.true (omega arith) c.held_column.ensures.held

pub returns-then-end-second-clause-least : goal.returns-then-end-second-clause-least
returns-then-end-second-clause-least t c =
    let a = c.args in
    let s = a.stretch in
    let e = c.first_half-first.ensures in
    find_first (lengths_in a.self.lengths.now) a.self.held.now a.at s.start s.count a.begin a.end _ (omega arith) (omega arith) (cut _ _ _ _ _ c.end-behind.ensures c.else-begin-stretch.either) (omega arith) (rw (e.start, e.count) at c.find.ensures.least)

pub returns-then-second-begin-clause-least : goal.returns-then-second-begin-clause-least
returns-then-second-begin-clause-least t c =
    let a = c.args in
    let s = a.stretch in
    let e = c.first_half-first.ensures in
    let f = c.second_half-second.ensures in
    find_second (lengths_in a.self.lengths.now) a.self.held.now a.at s.start s.count a.begin a.end _ (omega arith) (omega arith) (cut _ _ _ _ _ c.end-behind.ensures c.else-begin-stretch.either) (omega arith) (rw (e.count, f.start, f.count) at c.find-then-second-begin.ensures.least)

pub returns : goal.returns
returns t c =
    let a = c.args in
    let s = a.stretch in
    let e = c.first_half-first.ensures in
    let f = c.second_half-second.ensures in
    let least = find_both (lengths_in a.self.lengths.now) a.self.held.now a.at s.start s.count a.begin a.end c.find_start-best.result c.find_from.result (cut _ _ _ _ _ c.end-behind.ensures c.else-begin-stretch.either) (omega arith) (omega arith) (rw (e.count, f.start, f.count) at (c.find_start-best.ensures.least a.begin (omega arith))) (rw (e.start, e.count) at (c.find_from.ensures a.end (omega arith))) in
    record { least = least; inside = find_inside (lengths_in a.self.lengths.now) a.self.held.now a.at s.start s.count a.begin a.end _ s.some least }
