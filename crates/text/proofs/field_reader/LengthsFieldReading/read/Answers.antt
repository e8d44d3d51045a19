-- `Lengths::read`: what the length at the place says.
use Rattle.definitions.specs.Fields.{length_at}
use Rattle.text.specs.ReadSteps.{field_go, field_stop}
use Rattle.text.proofs.field_reader.LengthsFieldReading.read.Goals as goal

pub returns-in-Number : goal.returns-in-Number
returns-in-Number c = field_go length_at _ _ _ (rw (c.new.ensures.text, c.new.ensures.at) at c.in-Number.ensures)

pub returns-in-NoPath : goal.returns-in-NoPath
returns-in-NoPath c = field_go length_at _ _ _ (rw (c.new.ensures.text, c.new.ensures.at) at c.in-NoPath.ensures)

pub returns-in-Malformed : goal.returns-in-Malformed
returns-in-Malformed c = field_stop length_at _ _ (rw (c.new.ensures.text, c.new.ensures.at) at c.in-Malformed.ensures)
