-- `read_fields`: so many fields are in their places, and the next one begins at `place`.
use Rattle.std.proofs.Common.{◌≡◌, ◌+◌, ◌*◌}
use lib.ListN.{length}
use Rattle.definitions.specs.Fields.{field_bytes}
use Rattle.text.specs.ReadSteps.{FieldsGoing}
use Rattle.text.proofs.read_fields.Given as goal

abbrev pub invariant-loop-x : goal.invariant-loop-x
invariant-loop-x g l = record {
  place : l.place ≡ l.at + field_bytes * l.x-index;
  going : FieldsGoing g.F.FieldReading.says l.text l.at (length l.initial.out) l.x-index l.out;
}
