-- `route_network` meets its contract: cause by cause, and what is written for an accepted network is the definition's.
use mathlib.Core.Path.{◌≡◌, sym}
use Prim.Native.Nat.{ℕ}
use native.Mathlib.Omega.{arith}
use lib.ListN.{length, replicate, length-replicate}
use Rattle.definitions.specs.Limits.{label_places}
use Rattle.judgements.proofs.OneAfterAnother.{not_none}
use Rattle.routes.specs.RouteEntry.{refused_size, refused_early, refused_target, can_write, routed, plain}
use Rattle.routes.proofs.route_network.Goals as goal

-- both arrays that the labelling is lent have their size
zeros : length {A = ℕ} (replicate label_places 0) ≡ label_places
zeros = length-replicate {A = ℕ} label_places 0

pub returns-then-arcs-ne-ROUTE_PLACES : goal.returns-then-arcs-ne-ROUTE_PLACES
returns-then-arcs-ne-ROUTE_PLACES c =
    let x = refused_size _ _ _ _ _ _ _ _ c.if-arcs-ne-ROUTE_PLACES.true in
    rw (c.refusal.ensures, c.number.ensures) (record { routed = x; plain = plain _ _ _ _ _ _ _ _ _ _ x })

pub returns-then-done-ne0 : goal.returns-then-done-ne0
returns-then-done-ne0 c =
    let x = refused_early _ _ _ _ _ _ c.args.target c.args.arcs.now c.if-arcs-ne-ROUTE_PLACES.false zeros zeros c.label_arcs-done.ensures c.if-done-ne0.true in
    rw c.refusal-then-done-ne0.ensures (record { routed = x; plain = plain _ _ _ _ _ _ _ _ _ _ x })

pub returns-in-Err : goal.returns-in-Err
returns-in-Err c =
    let x = refused_target _ _ _ _ _ _ c.args.target c.args.arcs.now c.if-arcs-ne-ROUTE_PLACES.false zeros zeros c.label_arcs-done.ensures (omega (arith, c.if-done-ne0.false)) _ c.in-Err.ensures (not_none _) in
    rw (c.refusal-in-Err.ensures, c.number-in-Err.ensures) (record { routed = x; plain = plain _ _ _ _ _ _ _ _ _ _ x })

pub write_route-requires : goal.write_route-requires
write_route-requires c =
    can_write _ _ _ _ _ _ c.args.target c.args.arcs.now c.if-arcs-ne-ROUTE_PLACES.false zeros zeros c.label_arcs-done.ensures (omega (arith, c.if-done-ne0.false)) (sym c.in_default.ensures)

pub returns : goal.returns
returns c =
    let x = routed _ _ _ _ _ _ c.args.target c.args.arcs.now c.if-arcs-ne-ROUTE_PLACES.false zeros zeros c.label_arcs-done.ensures (omega (arith, c.if-done-ne0.false)) (sym c.in_default.ensures) _ _ c.write_route.ensures in
    record { routed = x; plain = plain _ _ _ _ _ _ _ _ _ _ x }
