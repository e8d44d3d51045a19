-- `read_rows`: the table holds the first i rows, and the definition reads the others from the place reached on.
use mathlib.Core.Path.{◌≡◌}
use lib.ListN.{length}
use Rattle.definitions.specs.Limits.{table_places}
use Rattle.text.specs.RowReading.{RowsGoing}
use Rattle.text.proofs.read_rows.Given as goal

abbrev pub invariant-loop-i : goal.invariant-loop-i
invariant-loop-i l = record { long : length l.table ≡ table_places; going : RowsGoing l.text l.at l.m l.i l.place l.table }
