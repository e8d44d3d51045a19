-- `fields::fill_number` meets its contract: a dash with blanks, or the last digit with the columns before it.
use mathlib.Core.Path.{sym, ◌∙◌}
use Rattle.fields.specs.NineColumns.{nine_number, nine_dash}
use Rattle.fields.proofs.fill_number.Goals as goal

pub returns-then-x-gt-MAX_COLUMN : goal.returns-then-x-gt-MAX_COLUMN
returns-then-x-gt-MAX_COLUMN c = c.fill_columns.ensures ∙ sym (nine_dash _ c.if-x-gt-MAX_COLUMN.true)

pub returns : goal.returns
returns c = c.fill_columns-2.ensures ∙ sym (nine_number _ c.if-x-gt-MAX_COLUMN.false)
