-- `answer::Output::put_fields` meets its contract. The loop's invariant: the line begins with the fields of the first i numbers.
use Rattle.std.proofs.Common.{◌≡◌, ◌*◌, length, take}
use mathlib.Core.List.{flat_map}
use Rattle.definitions.specs.Limits.{column_bytes, line_places}
use Rattle.definitions.specs.Fields.{nine_columns}
use Rattle.answer.proofs.Output.put_fields.Given as goal

abbrev pub invariant-loop-i : goal.invariant-loop-i
invariant-loop-i l = record { long : length l.line ≡ line_places; written : take (column_bytes * l.i) l.line ≡ flat_map nine_columns (take l.i l.numbers) }
