-- `labelling::label_arcs` meets its contract: a refusal leaves both buffers, else the loop's answer is the definition's.
use mathlib.Core.Path.{sym}
use native.Mathlib.Omega.{arith}
use Rattle.judgements.proofs.OneAfterAnother.{not_none}
use Rattle.engine.specs.Labeller.LabelEntry.{arcs_other, arcs_refused, arcs_labelled}
use Rattle.engine.proofs.labelling.label_arcs.Goals as goal

pub returns-then-arcs-ne-LABEL_PLACES : goal.returns-then-arcs-ne-LABEL_PLACES
returns-then-arcs-ne-LABEL_PLACES c = rw c.refusal.ensures (arcs_other _ _ _ _ _ _ _ _ c.if-arcs-ne-LABEL_PLACES.true)

pub returns-in-Err : goal.returns-in-Err
returns-in-Err c = rw c.refusal-in-Err.ensures (arcs_refused _ _ _ _ _ _ _ _ (omega (arith, c.if-arcs-ne-LABEL_PLACES.false)) _ c.in-Err.ensures (not_none _))

pub label_accepted-requires : goal.label_accepted-requires
label_accepted-requires c = (sym c.in_default.ensures, omega (arith, c.if-arcs-ne-LABEL_PLACES.false))

pub returns : goal.returns
returns c = arcs_labelled _ _ _ _ _ _ _ _ (omega (arith, c.if-arcs-ne-LABEL_PLACES.false)) (sym c.in_default.ensures) _ _ _ c.label_accepted.ensures
