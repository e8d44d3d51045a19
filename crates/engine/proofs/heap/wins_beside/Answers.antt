-- `wins_beside` tests one column on each side of the place.
use mathlib.Core.Path.{sym, ◌∙◌}
use Prim.Native.Nat.{◌-◌}
use native.Mathlib.Omega.{arith}
use borrow.Author.Tests.{le-ltb}
use Rattle.engine.specs.Heap.Search.{wins_some, wins_next}
use Rattle.engine.proofs.heap.wins_beside.Goals.{else-p-gt0-via-then-p-gt0+else-wins, else-p-gt0-via-else-p-gt0}
use Rattle.engine.proofs.heap.wins_beside.Goals as goal

pub interval-requires : goal.interval-requires
interval-requires c = let p = c.requires in omega (arith, p.0.laid.words, p.1, c.if-p-gt0.true)

pub wins-requires : goal.wins-requires
wins-requires c =
    let p = c.requires in
    let o = p.0.laid.ordered (c.args.p - 1) (omega (arith, p.1, c.if-p-gt0.true)) in
    let last = c.interval.ensures.last_is in
    (p.0, omega (arith, p.1, c.if-p-gt0.true), (omega (arith, last, o), omega (arith, last)))

pub returns-then-wins : goal.returns-then-wins
returns-then-wins c =
    wins_some _ _ _ _ _ c.requires.0 _ c.requires.1 c.if-p-gt0.true
    (rw c.interval.ensures.last_is at (sym c.wins.ensures ∙ c.if-wins.true))

pub count-requires : goal.count-requires
count-requires c = omega (arith, c.requires.0.laid.words)

pub interval-requires-then-p-count : goal.interval-requires-then-p-count
interval-requires-then-p-count c = omega (arith, c.requires.0.laid.words, c.count.ensures.is, c.if-p-count.true)

pub wins-requires-then-p-count : goal.wins-requires-then-p-count
wins-requires-then-p-count c =
    let p = c.requires.0 in
    let n = c.count.ensures.is in
    let o = p.laid.ordered c.args.p (omega (arith, n, c.if-p-count.true)) in
    let first = c.interval-then-p-count.ensures.first_is in
    (p, omega (arith, n, c.if-p-count.true), (omega (arith, first), omega (arith, first, o)))

pub returns-then-p-count : goal.returns-then-p-count
returns-then-p-count c =
    wins_next _ _ _ _ _ c.requires.0 _ c.requires.1 _ (λ some. elim c.else-p-gt0.branch [
      | else-p-gt0-via-then-p-gt0+else-wins w ↦ sym (rw w.interval.ensures.last_is at w.wins.ensures) ∙ w.if-wins.false
      | else-p-gt0-via-else-p-gt0 w ↦ absurd (omega (arith, some, w.if-p-gt0.false))
    ]) (λ _. rw c.interval-then-p-count.ensures.first_is at c.wins-then-p-count.ensures)
    (λ l. absurd (omega (arith, l, c.if-p-count.true, c.count.ensures.is)))

pub returns-else-p-count : goal.returns-else-p-count
returns-else-p-count c =
    wins_next _ _ _ _ _ c.requires.0 _ c.requires.1 _ (λ some. elim c.else-p-gt0.branch [
      | else-p-gt0-via-then-p-gt0+else-wins w ↦ sym (rw w.interval.ensures.last_is at w.wins.ensures) ∙ w.if-wins.false
      | else-p-gt0-via-else-p-gt0 w ↦ absurd (omega (arith, some, w.if-p-gt0.false))
    ]) (λ l. absurd (omega (arith, c.count.ensures.is, c.if-p-count.false)))
    (λ _. le-ltb _ _ c.if-p-count.false)
