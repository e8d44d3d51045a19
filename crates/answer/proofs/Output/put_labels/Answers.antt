-- `answer::Output::put_labels` meets its contract: the labelling of an accepted network, line by line, is the listing of its labels.
use mathlib.Core.Path.{refl, ap, ◌∙◌}
use Prim.Native.Nat.{ℕ, ◌+◌}
use native.Mathlib.Omega.{arith}
use borrow.Author.Rules.{rules}
use lib.ListN.{replicate}
use Rattle.definitions.specs.Limits.{label_places}
use Rattle.answer.specs.Lines.{length_line}
use Rattle.answer.specs.Output.{puts_both}
use Rattle.answer.specs.Lent.{vertices_few, labels_listed}
use Rattle.answer.proofs.Output.put_labels.Goals as goal

pub put_vertices-requires : goal.put_vertices-requires
put_vertices-requires c =
    let few = vertices_few _ _ _ _ _ _ c.requires.1 in
    let p = c.put_fields.ensures in
    let next = p.behind ∙ ap (λ (k : ℕ). c.args.self.now.len + k) (length_line _) in
    (few, search rules, omega (arith, next, p.long))

pub returns : goal.returns
returns c =
    let lines = c.put_vertices.ensures in
    let w = c.args.network.now in
    rw (← labels_listed w.n w.p w.sizes.now w.vertices.now w.lengths.now c.args.source c.requires.1 c.label_network-done.result (replicate label_places 0) _ refl c.label_network-done.ensures.labelled)
    (puts_both c.put_fields.ensures lines (omega arith))
