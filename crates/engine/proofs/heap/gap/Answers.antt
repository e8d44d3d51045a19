-- `gap`: nothing to look for, or the first and the last of the columns between.
use mathlib.Core.Path.{sym, ◌∙◌}
use Prim.Native.Nat.{◌+◌, ◌≤◌, ◌<◌}
use native.Mathlib.Omega.{arith}
use lib.ListN.{length}
use Rattle.std.proofs.Common.{rules}
use Rattle.definitions.specs.HeapWords.{heap_words}
use Rattle.engine.specs.Heap.Bisect.{FirstOf, LastOf, Says, first_told, last_told}
use Rattle.engine.specs.Heap.Search.{reaches_first, gap_order, gap_full, gap_found}
use Rattle.engine.proofs.heap.gap.Goals as goal

pub reached-requires : goal.reached-requires
reached-requires c = omega (arith, c.requires.ready.1.words)

pub returns-then-reached-block : goal.returns-then-reached-block
returns-then-reached-block c = let p = c.requires in gap_full _ _ _ _ _ p.ready.1 _ p.passed.high (sym c.reached.ensures.is ∙ c.if-reached-block.true)

pub between-free-requires : goal.between-free-requires
between-free-requires c = let p = c.requires in (p.ready.0.laid.words, p.passed.high)

pub first_in-first-requires : goal.first_in-first-requires
first_in-first-requires c =
    let p = c.requires in
    let o = gap_order _ _ _ _ _ _ _ p.ready.0.laid p.ready.1 p.passed.high in
    let f = c.between-free.ensures in
    let b = c.args.block.now in
    record {
      ordered = omega (arith, f.0, f.1, o.0);
      asks = λ x l m.
          let z : (heap_words (x + 1) ≤ length c.args.heap.now) × (c.args.row < length b.rows.now) × (x < b.cols) =
          (omega (arith, f.1, o.1, p.ready.1.words), p.ready.1.row_in_lem, omega (arith, f.1, o.1)) in
          search rules;
    }

pub last_in-end-requires : goal.last_in-end-requires
last_in-end-requires c =
    let p = c.requires in
    let o = gap_order _ _ _ _ _ _ _ p.ready.0.laid p.ready.1 p.passed.high in
    let f = c.between-free.ensures in
    let b = c.args.block.now in
    record {
      ordered = c.first_in-first.ensures.high;
      asks = λ x l m.
          let z : (heap_words (x + 1) ≤ length c.args.heap.now) × (c.args.row < length b.rows.now) × (x < b.cols) =
          (omega (arith, f.1, o.1, p.ready.1.words), p.ready.1.row_in_lem, omega (arith, f.1, o.1)) in
          search rules;
    }

pub returns : goal.returns
returns c =
    let p = c.requires in
    let f = c.between-free.ensures in
    let b = c.args.block.now in
    let first : FirstOf (Says (reaches_first c.args.heap.now b.rows.now b.col0 c.args.row)) c.between-free.result.first c.between-free.result.end c.first_in-first.result =
    first_told _ _ _ _ _ (λ x t l m k. search rules) c.first_in-first.ensures in
    let last : LastOf (Says (reaches_first c.args.heap.now b.rows.now b.col0 c.args.row)) c.first_in-first.result c.between-free.result.end c.last_in-end.result =
    last_told _ _ _ _ _ (λ x t l m k. search rules) c.last_in-end.ensures in
    gap_found _ _ _ _ _ p.ready.1 _ p.passed.high (λ k l. p.passed.lost k (omega arith) l) (λ k l m. p.passed.won k l m) _ _ (rw (f.0, f.1) at first) (rw f.1 at last)
