-- `answer::Output::put_route` meets its contract: the route to a target of an accepted network, line by line, is the listing of the route.
use mathlib.Core.Path.{refl, ap, ◌∙◌}
use Prim.Native.Nat.{ℕ, ◌+◌}
use native.Mathlib.Omega.{arith}
use borrow.Author.Rules.{rules}
use lib.ListN.{replicate}
use Rattle.definitions.specs.Limits.{route_places}
use Rattle.answer.specs.Lines.{length_line}
use Rattle.answer.specs.Output.{puts_both}
use Rattle.answer.specs.Lent.{arcs_few, route_listed}
use Rattle.answer.proofs.Output.put_route.Goals as goal

pub put_arcs-requires : goal.put_arcs-requires
put_arcs-requires c =
    let pre = c.requires in
    let few = arcs_few _ _ _ _ _ _ pre.1 _ pre.2 c.route_network-done.result _ _ refl c.route_network-done.ensures.routed in
    let p = c.put_fields.ensures in
    let next = p.behind ∙ ap (λ (k : ℕ). c.args.self.now.len + k) (length_line _) in
    (few, search rules, omega (arith, next, p.long))

pub returns : goal.returns
returns c =
    let lines = c.put_arcs.ensures in
    let w = c.args.network.now in
    let pre = c.requires in
    rw (← route_listed w.n w.p w.sizes.now w.vertices.now w.lengths.now c.args.source pre.1 c.args.target pre.2 c.route_network-done.result (replicate route_places 0) _ refl c.route_network-done.ensures.routed)
    (puts_both c.put_fields.ensures lines (omega arith))
