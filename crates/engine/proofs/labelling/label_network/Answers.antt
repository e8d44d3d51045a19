-- `labelling::label_network` meets its contract: the arcs are kept in an array of its own, which has its size.
use lib.ListN.{length-replicate}
use Prim.Native.Nat.{ℕ}
use Rattle.definitions.specs.Limits.{label_places}
use Rattle.engine.specs.Labeller.LabelEntry.{labels_alone, plain}
use Rattle.engine.proofs.labelling.label_network.Goals as goal

pub returns : goal.returns
returns c =
    let x = labels_alone _ _ _ _ _ _ _ _ (length-replicate {A = ℕ} label_places 0) _ _ _ c.label_arcs.ensures in
    record { labelled = x; plain = plain _ _ _ _ _ _ _ _ _ x }
