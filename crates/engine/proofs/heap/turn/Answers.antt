-- `turn`: the interval, then the column in it.
use Prim.Native.Nat.{◌+◌, ◌≤◌, ◌<◌}
use native.Mathlib.Omega.{arith}
use native.Mathlib.Nat.{le_refl}
use lib.ListN.{length}
use Rattle.std.proofs.Common.{rules}
use Rattle.definitions.specs.Limits.{row_places}
use Rattle.definitions.specs.HeapWords.{heap_words, last_at}
use Rattle.engine.specs.Heap.Bisect.{Between, between_turn, rises_part}
use Rattle.engine.specs.Heap.Search.{places_turn, climbs_columns, turned_column, turned_none}
use Rattle.engine.proofs.heap.turn.Goals as goal

pub first_yes-place-requires : goal.first_yes-place-requires
first_yes-place-requires g c =
    let p = c.requires in
    record {
      asks = record {
        ordered = p.ready.1;
        asks = λ x a b.
            let o = p.ready.0.ordered x (omega (arith, p.ready.2)) in
            let z : heap_words (x + 1) ≤ length c.args.heap.now = omega (arith, p.ready.0.words, p.ready.2) in
            let y = p.asks x (last_at c.args.heap.now x) a b (o, le_refl _) in
            search rules;
      };
      small = p.ready.3;
    }

pub first_yes-column-requires : goal.first_yes-column-requires
first_yes-column-requires g c =
    let p = c.requires in
    let i = c.interval-found.ensures in
    let l : c.first_yes-place.result < c.args.to = c.if-place-to.true in
    record {
      asks = record {
        ordered = omega (arith, i.first_is, i.last_is, p.ready.0.ordered c.first_yes-place.result (omega (arith, p.ready.2)));
        asks = λ x a b. let y = p.asks c.first_yes-place.result x c.first_yes-place.ensures.low l (omega (arith, i.first_is), omega (arith, i.last_is)) in search rules;
      };
      small = search rules;
    }

pub returns-then-place-to : goal.returns-then-place-to
returns-then-place-to g c = λ t tells up.
    let p = c.requires in
    let i = c.interval-found.ensures in
    let l = c.if-place-to.true in
    let w = c.args.heap.now in
    let place = places_turn _ _ _ _ t p.ready.0 p.ready.2 up c.first_yes-place.ensures (λ k x a b i q. let e = tells k (last_at w k) x a b i in search rules) in
    let column : Between (t c.first_yes-place.result) c.interval-found.result.first c.interval-found.result.last c.first_yes-column.result c.first_yes-column.result =
    between_turn _ _ _ _ _ (rw (i.first_is, i.last_is) (rises_part (t c.first_yes-place.result) _ _ (climbs_columns w p.ready.0 t _ _ p.ready.2 up c.first_yes-place.result place.low l)))
    (λ d x a b q. let e = tells c.first_yes-place.result d x place.low l (omega (arith, i.first_is), omega (arith, i.last_is)) in search rules) c.first_yes-column.ensures in
    turned_column w p.ready.0 t _ _ p.ready.2 _ place up l _ (rw (i.first_is, i.last_is) at column)

pub returns-then-place-count : goal.returns-then-place-count
returns-then-place-count g c = λ t tells up.
    let p = c.requires in
    let n = c.count.ensures.is in
    let w = c.args.heap.now in
    let place = places_turn _ _ _ _ t p.ready.0 p.ready.2 up c.first_yes-place.ensures (λ k x a b i q. let e = tells k (last_at w k) x a b i in search rules) in
    turned_none w p.ready.0 t _ _ p.ready.2 _ place up c.if-place-to.false _ (λ _. c.interval-column.ensures.first_is) (λ z. absurd (omega (arith, z, n, c.if-place-count.true)))

pub returns : goal.returns
returns g c = λ t tells up.
    let p = c.requires in
    let n = c.count.ensures.is in
    let w = c.args.heap.now in
    let place = places_turn _ _ _ _ t p.ready.0 p.ready.2 up c.first_yes-place.ensures (λ k x a b i q. let e = tells k (last_at w k) x a b i in search rules) in
    turned_none w p.ready.0 t _ _ p.ready.2 _ place up c.if-place-to.false _ (λ z. absurd (omega (arith, z, n, c.if-place-count.false))) (λ _. le_refl row_places)
