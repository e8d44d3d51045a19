-- `search`: the columns of the gap, whether the row wins a column beside it, then the two ends of all that it wins, each found by `turn`.
use mathlib.Core.Logic.{inl, inr}
use Prim.Native.Nat.{◌+◌, ◌≤◌, ◌<◌}
use native.Mathlib.Omega.{arith}
use lib.ListN.{length}
use Rattle.std.proofs.Common.{rules}
use Rattle.definitions.specs.HeapWords.{heap_words, count_of}
use Rattle.engine.specs.Heap.Laid.{In, lined}
use Rattle.engine.specs.Heap.Search.{wins, loses, SearchNeeds, TurnLeaves, parents_pass, found_none, left_won, right_won, found_some}
use Rattle.engine.proofs.heap.search.Goals.{else-free-via-then-free+else-not-wins_beside, else-free-via-else-free}
use Rattle.engine.proofs.heap.search.Goals as goal

pub count-n-requires : goal.count-n-requires
count-n-requires c = omega (arith, c.requires.0.laid.words)

pub first_yes-p-requires : goal.first_yes-p-requires
first_yes-p-requires c =
    let n = c.count-n.ensures in
    record {
      asks = record { ordered = omega arith; asks = λ x a b. let z : heap_words (x + 1) ≤ length c.args.heap.now = omega (arith, c.requires.0.laid.words, n.is) in search rules };
      small = omega (arith, n.fits);
    }

pub gap-free-requires : goal.gap-free-requires
gap-free-requires c =
    let p = c.requires in
    let w = c.args.heap.now in
    let passed = parents_pass _ _ _ p.0 c.count-n.ensures.is c.first_yes-p.ensures (λ x t a b k. search rules) in
    record { ready = (p.0, p.1); passed = passed }

pub wins_beside-requires : goal.wins_beside-requires
wins_beside-requires c = (c.requires.0, omega (arith, c.count-n.ensures.is, c.first_yes-p.ensures.high))

pub returns-then-not-wins_beside : goal.returns-then-not-wins_beside
returns-then-not-wins_beside c =
    let p = c.requires in
    let w = c.args.heap.now in
    let passed = parents_pass _ _ _ p.0 c.count-n.ensures.is c.first_yes-p.ensures (λ x t a b k. search rules) in
    found_none _ _ _ _ _ _ _ _ _ _ c.if-free.true c.if-not-wins_beside.true c.gap-free.ensures passed c.wins_beside.ensures

pub turn-left-requires : goal.turn-left-requires
turn-left-requires c =
    let p = c.requires in
    let n = c.count-n.ensures in
    let high : c.first_yes-p.result ≤ count_of c.args.heap.now = omega (arith, n.is, c.first_yes-p.ensures.high) in
    let b = c.args.block.now in
    record {
      ready = (lined p.0.laid, omega arith, high, omega (arith, high, n.is, n.fits));
      asks = λ k d l m i. let z : SearchNeeds c.args.heap.now b.rows.now b.col0 b.labels.now c.args.row × (k < count_of c.args.heap.now) × In c.args.heap.now k d = (p.0, omega arith, i) in search rules;
    }

pub turn-requires : goal.turn-requires
turn-requires c =
    let p = c.requires in
    let n = c.count-n.ensures in
    let high : c.first_yes-p.result ≤ count_of c.args.heap.now = omega (arith, n.is, c.first_yes-p.ensures.high) in
    let b = c.args.block.now in
    record {
      ready = (lined p.0.laid, omega (arith, high, n.is), omega (arith, n.is), omega (arith, n.fits));
      asks = λ k d l m i. let z : SearchNeeds c.args.heap.now b.rows.now b.col0 b.labels.now c.args.row × (k < count_of c.args.heap.now) × In c.args.heap.now k d = (p.0, omega (arith, n.is), i) in search rules;
    }

pub end_of-right-requires : goal.end_of-right-requires
end_of-right-requires c =
    let p = c.requires in
    let n = c.count-n.ensures.is in
    let w = c.args.heap.now in
    let b = c.args.block.now in
    let passed = parents_pass _ _ _ p.0 n c.first_yes-p.ensures (λ x t a b k. search rules) in
    let right : TurnLeaves w (loses w b.rows.now b.col0 b.labels.now c.args.row) c.first_yes-p.result (count_of w) c.turn.result.place c.turn.result.column =
    rw n at (c.turn.ensures (loses w b.rows.now b.col0 b.labels.now c.args.row) (λ k d x l m i q. search rules) (rw n (p.0.right _ (λ k h l. passed.won k h l)))) in
    (p.0.laid.words, right.high)

pub returns : goal.returns
returns c =
    let p = c.requires in
    let n = c.count-n.ensures.is in
    let w = c.args.heap.now in
    let b = c.args.block.now in
    let passed = parents_pass _ _ _ p.0 n c.first_yes-p.ensures (λ x t a b k. search rules) in
    let left : TurnLeaves w (wins w b.rows.now b.col0 b.labels.now c.args.row) 0 c.first_yes-p.result c.turn-left.result.place c.turn-left.result.column =
    c.turn-left.ensures _ (λ k d x l m i q. search rules) (p.0.left _ passed.high (λ k h. passed.lost k (omega arith) h)) in
    let right : TurnLeaves w (loses w b.rows.now b.col0 b.labels.now c.args.row) c.first_yes-p.result (count_of w) c.turn.result.place c.turn.result.column =
    rw n at (c.turn.ensures (loses w b.rows.now b.col0 b.labels.now c.args.row) (λ k d x l m i q. search rules) (rw n (p.0.right _ (λ k h l. passed.won k h l)))) in
    rw (c.chosen.ensures, c.chosen-2.ensures)
    (found_some _ _ _ _ _ _ p.0.laid p.1 _ passed.high _ _ (left_won _ _ _ _ _ p.0.laid _ passed.high _ _ left) _ _
    (right_won _ _ _ _ _ p.0.laid _ passed.high _ _ right _ _ c.end_of-right.ensures) _ _ c.gap-free.ensures
    (elim c.else-free.branch [
      | else-free-via-then-free+else-not-wins_beside w ↦ inr (w.wins_beside.ensures.some w.if-not-wins_beside.false)
      | else-free-via-else-free w ↦ inl w.if-free.false
    ]))
