-- `fields::read_field` meets its contract: the six bytes at the place, where they stand in the text.
use mathlib.Core.Path.{◌∙◌}
use Rattle.definitions.specs.Fields.{field_of}
use Rattle.fields.specs.SixColumns.{six_there, six_missing}
use Rattle.fields.proofs.read_field.Goals as goal

pub returns-in_err-window : goal.returns-in_err-window
returns-in_err-window c = rw c.from_residual.ensures (six_missing field_of _ _ c.in_err-window.ensures)

pub returns : goal.returns
returns c = c.field_of.ensures ∙ six_there field_of _ _ _ c.in_ok-window.ensures
