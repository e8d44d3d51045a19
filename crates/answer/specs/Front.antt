-- A program reads the front of its input, and no more: the laws of it stand in proofs/.
--   input_places                the bytes that it has room for
use Rattle.std.specs.Prelude.{ℕ, suc}
use Rattle.definitions.specs.Limits.{max_text}

-- one byte more than a text may have shows that it is too long
abbrev pub input_places : ℕ
input_places = suc max_text
