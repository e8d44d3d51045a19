-- How many intervals and extractions there are at most.
--   activation_inserts extraction_inserts    intervals that one call inserts
--   place_inserts vertex_inserts             that activating a place of a piece inserts, and settling a vertex
--   block_inserts max_inserted               that all calls on a block insert, and all calls
--   max_extracted                           extractions of a labelling
use Rattle.std.specs.Prelude.{ℕ, ◌+◌, ◌*◌}
use Rattle.definitions.specs.Limits.{max_pieces, max_size}
use Rattle.preparation.specs.Prepared.{max_blocks}

-- laws `step_new` and `step_new_extract` of the heap: three, and one more for each closed column, of which a block has at most so many
abbrev pub activation_inserts : ℕ
activation_inserts = 3 + max_size

abbrev pub extraction_inserts : ℕ
extraction_inserts = 2

-- a place is a row of one block for each level of the halving, and each level has fewer places than the one before
abbrev pub place_inserts : ℕ
place_inserts = activation_inserts * max_size

abbrev pub vertex_inserts : ℕ
vertex_inserts = max_pieces * place_inserts

-- each row is activated once, each column extracted once
abbrev pub block_inserts : ℕ
block_inserts = activation_inserts * max_size + extraction_inserts * max_size

abbrev pub max_inserted : ℕ
max_inserted = max_blocks * block_inserts

abbrev pub max_extracted : ℕ
max_extracted = max_blocks * max_size
