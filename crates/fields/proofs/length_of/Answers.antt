-- `fields::length_of` meets its contract: what the bytes after the blanks say.
use mathlib.Core.Path.{sym, ap, ◌∙◌}
use native.Mathlib.Omega.{arith}
use Rattle.definitions.specs.Fields.{field_answer}
use Rattle.definitions.proofs.Laws.FieldProofs.{length_skip_blanks}
use Rattle.fields.specs.SixColumns.{length_number, length_none}
use Rattle.fields.proofs.length_of.Goals as goal

pub numeral-requires : goal.numeral-requires
numeral-requires c = rw c.after_blanks-rest.ensures (omega (arith, length_skip_blanks c.args.bytes.now))

pub returns-in-Some : goal.returns-in-Some
returns-in-Some c = length_number _ _ c.after_blanks-rest.ensures _ (sym c.numeral.ensures ∙ ap field_answer c.in-Some.is)

pub returns-in-None : goal.returns-in-None
returns-in-None c = c.dash_of.ensures _ c.after_blanks-rest.ensures ∙ length_none _ _ c.after_blanks-rest.ensures (sym c.numeral.ensures ∙ ap field_answer c.in-None.is)
