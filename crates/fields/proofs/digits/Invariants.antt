-- `fields::digits` meets its contract. The loop's invariant: the value is below the power of ten of the digits passed, and the bytes from
-- place i on, after digits that said the value, say what all of them say.
use mathlib.Core.Path.{◌≡◌}
use Prim.Native.Nat.{◌<◌, ◌^◌}
use lib.ListN.{drop}
use Rattle.fields.specs.SixColumns.{digits_after}
use Rattle.fields.proofs.digits.Given as goal

abbrev pub invariant-loop-b : goal.invariant-loop-b
invariant-loop-b l = record { fits : l.value < 10 ^ l.b-index; says : digits_after 0 l.bytes ≡ digits_after l.value (drop l.b-index l.bytes) }
