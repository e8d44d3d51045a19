-- `fields::fill_columns` meets its contract. The loop's invariant: the columns that are left to fill, before the bytes filled so far, are the
-- whole.
use mathlib.Core.Path.{◌≡◌}
use mathlib.Core.List.{[], ◌∷◌, ◌++◌}
use lib.ListN.{length, drop}
use Rattle.definitions.specs.Limits.{column_bytes}
use Rattle.fields.specs.NineColumns.{last_column, columns}
use Rattle.fields.proofs.fill_columns.Given as goal

abbrev pub invariant-loop-i : goal.invariant-loop-i
invariant-loop-i l = record { long : length l.part ≡ column_bytes; filled : columns last_column l.x ++ (l.last ∷ []) ≡ columns l.i l.rest ++ drop l.i l.part }
