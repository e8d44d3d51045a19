-- `answer::Output::put_number` meets its contract: it calls itself with a tenth of its number.
use Rattle.std.proofs.Common.{◌≡◌, sym, ap, ◌∙◌, List, [], ◌∷◌, ℕ, ◌+◌, ◌/◌, ◌%◌, ◌^◌, ◌≤◌, ◌<◌, arith, length, length-append}
use Rattle.definitions.specs.Fields.{decimal}
use Rattle.fields.specs.NineColumns.{max_digits, decimal_one, decimal_more}
use Rattle.answer.specs.Output.{puts_both}
use Rattle.answer.proofs.Output.+put_number.Goals as goal

-- one digit less
shorter : (x : ℕ) → 10 ≤ x → x < 10 ^ max_digits → length (decimal (x / 10)) + 1 ≡ length (decimal x)
shorter x h l = sym (ap (λ (xs : List ℕ). length xs) (decimal_more x h l) ∙ length-append (decimal (x / 10)) ((48 + x % 10) ∷ []))

pub put_byte-requires : goal.put_byte-requires
put_byte-requires t c = omega (arith, ap (λ (xs : List ℕ). length xs) (decimal_one c.args.x (omega arith)))

pub returns-then-x-lt10 : goal.returns-then-x-lt10
returns-then-x-lt10 t c = rw (decimal_one _ c.if-x-lt10.true) c.put_byte.ensures

pub put_number-requires : goal.put_number-requires
put_number-requires t c = (omega arith, omega (arith, shorter c.args.x c.if-x-lt10.false (omega arith)))

pub put_byte-requires-2 : goal.put_byte-requires-2
put_byte-requires-2 t c =
    let p = c.put_number.ensures in
    omega (arith, p.behind, p.long, shorter c.args.x c.if-x-lt10.false (omega arith))

pub returns : goal.returns
returns t c = rw (decimal_more _ c.if-x-lt10.false (omega arith)) (puts_both c.put_number.ensures c.put_byte-2.ensures (omega arith))
