-- `fields::digits` meets its contract. The loop's invariant: the value is below the power of ten of the digits passed, and the bytes from
-- place i on, after digits that said the value, say what all of them say.
use mathlib.Core.Path.{sym, ◌∙◌}
use native.Mathlib.Numerals.{add-one}
use native.Mathlib.Omega.{arith}
use lib.ListN.{drop_of_length-le}
use Rattle.definitions.specs.Lists.{every}
use Rattle.definitions.specs.Fields.{numeral_value}
use Rattle.definitions.proofs.Laws.FieldBound.{digit_bound}
use Rattle.fields.specs.SixColumns.{digits_after, digits_more, digits_other}
use Rattle.fields.proofs.digits.Goals as goal

pub returns-then-not-is_ascii_digit : goal.returns-then-not-is_ascii_digit
returns-then-not-is_ascii_digit c =
    let l = c.loop-b in
    sym (l.invariant.says ∙ digits_other _ _ _ c.loop-b-test.true (sym c.is_ascii_digit.ensures.value ∙ c.if-not-is_ascii_digit.true))

pub loop-b-preserved : goal.loop-b-preserved
loop-b-preserved c =
    let l = c.loop-b in
    let digit = c.if-not-is_ascii_digit.ensures.cases in
    record {
      fits = rw add-one (digit_bound _ _ _ l.invariant.fits (omega arith));
      says = l.invariant.says ∙ rw add-one (digits_more _ _ _ c.loop-b-test.true (sym c.is_ascii_digit.ensures.value ∙ c.if-not-is_ascii_digit.false));
    }

pub returns : goal.returns
unfolding digits_after every numeral_value
returns c =
    let l = c.loop-b in
    let none = drop_of_length-le c.args.bytes.now {i = l.b-index} (omega arith) in
    sym (l.invariant.says ∙ rw none)
