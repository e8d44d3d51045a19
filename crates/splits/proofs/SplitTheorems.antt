-- The halving of a piece: the main statements, each in full, with its proof in the file that it cites.
--   the_list the_count the_rule          the constant list of the code, by its definition
--   each_pair_once not_both              every ordered pair of different places is in one block
--   rows_bound columns_bound the_logarithm   m·⌈log₂ m⌉ bounds the rows of all blocks, and the columns
use Rattle.std.specs.Prelude.{◌≡◌, ◌≢◌, ℕ, ◌*◌, ◌≤◌, ◌<◌, get_or, length}
use mathlib.Core.List.{map, flat_map}
use Rattle.definitions.specs.Limits.{max_size}
use Rattle.definitions.specs.Lists.{total, up_from, Every}
use Rattle.definitions.specs.Blocks.{splits_of, all_splits, windows_of, logarithm}
use Rattle.splits.specs.Table.{no_split}
use Rattle.splits.proofs.Halving.{listed, counted, halved}
use Rattle.splits.specs.Halving.{Halved}
use Rattle.splits.specs.Windows.{tally, Inside, Logarithm}
use Rattle.splits.proofs.Windows.{pair_once, windows_inside, rows_few, cols_few, logarithm_is}

-- The list that the code's constant equals (`table` promises it) is the splits of size 1, then of size 2, up to 24.
the_list : all_splits ≡ flat_map splits_of (up_from 1 max_size)
the_list = listed

the_count : length all_splits ≡ 276
the_count = counted

-- Every split cuts its stretch after half of its places, rounded down: `Halved` says so of one.
-- Tested over the whole list, carried to each entry.
the_rule : (k : ℕ) → k < 276 → Halved (get_or all_splits k no_split)
the_rule = halved

-- Two different places lie in exactly one block: so many blocks have row i and column j.
each_pair_once : (m i j : ℕ) → m ≤ max_size → i < m → j < m → i ≢ j → tally i j (windows_of m) ≡ 1
each_pair_once = pair_once

-- A block's rows and columns are places of the piece, and no place is both.
not_both : (m : ℕ) → m ≤ max_size → Every (Inside m) (windows_of m)
not_both = windows_inside

-- All blocks of a piece together have at most m·⌈log₂ m⌉ rows, and as many columns. Tested for every size.
rows_bound : (m : ℕ) → m ≤ max_size → total (map (λ w. w.rows) (windows_of m)) ≤ m * logarithm m
rows_bound = rows_few

columns_bound : (m : ℕ) → m ≤ max_size → total (map (λ w. w.cols) (windows_of m)) ≤ m * logarithm m
columns_bound = cols_few

-- `logarithm` is what it is called: 2 to it is at least m, and 2 to one less is below m.
the_logarithm : (m : ℕ) → m ≤ max_size → Logarithm m
the_logarithm = logarithm_is
