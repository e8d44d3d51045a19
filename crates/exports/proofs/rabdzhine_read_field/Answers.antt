-- `rabdzhine_read_field`: a buffer of another size is left, else its one place holds the number that was read, or 0.
use Rattle.definitions.specs.Fields.{a_field, no_field}
use Rattle.exports.specs.FieldEntryLaws.{field_size, field_left}
use Rattle.exports.proofs.rabdzhine_read_field.Goals as goal

pub returns-then-value-ne1 : goal.returns-then-value-ne1
returns-then-value-ne1 c = rw c.number.ensures (field_size _ _ _ c.if-value-ne1.true)

pub returns-in_default : goal.returns-in_default
returns-in_default c = rw c.number-in_default.ensures (field_left _ _ _ no_field c.if-value-ne1.false c.in_default.ensures)

pub returns : goal.returns
returns c = field_left _ _ _ (a_field c.in-Some.x) c.if-value-ne1.false c.in-Some.ensures
