-- `fields::read_length` meets its contract: the six bytes at the place, where they stand in the text.
use mathlib.Core.Path.{◌∙◌}
use Rattle.definitions.specs.Fields.{length_of}
use Rattle.fields.specs.SixColumns.{six_there, six_missing}
use Rattle.fields.proofs.read_length.Goals as goal

pub returns-in-Some : goal.returns-in-Some
returns-in-Some c = c.length_of.ensures ∙ six_there length_of _ _ _ c.in-Some.ensures

pub returns-in-None : goal.returns-in-None
returns-in-None c = six_missing length_of _ _ c.in-None.ensures
