-- What a question is about, as the code has it: a row with what is held for it, and a stretch of its columns.
--   column                        a column with its length
--   asked                         of the columns from a up to b those of a stretch, whose places begin at p
use Rattle.std.specs.Prelude.{ℕ}
use Rattle.definitions.specs.Best.{Best, by}
use Rattle.definitions.specs.Index.{ask}
use Rattle.index.specs.declared.Row.{Row}
use Rattle.index.specs.declared.stretch.Stretch.{Stretch}
use Rattle.index.specs.HeldRows.{lengths_in}

abbrev pub column : Row → ℕ → Best
column row c = by c (lengths_in row.lengths.now c)

abbrev pub asked : Row → ℕ → ℕ → ℕ → Stretch → Best
asked row a b p s = ask s.count (lengths_in row.lengths.now) row.held.now a b p s.start s.count
