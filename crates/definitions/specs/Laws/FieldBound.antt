-- The bound on the value of a field. Its laws stand in the file `Laws/FieldBound` of proofs/.
--   max_field                 what six columns hold
use Rattle.std.specs.Prelude.{ℕ, ◌-◌, ◌^◌}
use Rattle.definitions.specs.Fields.{field_bytes}

-- what has room in six columns: six nines
abbrev pub max_field : ℕ
max_field = 10 ^ field_bytes - 1
