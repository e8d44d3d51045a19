-- `answer::Output::put_fields` meets its contract. The loop's invariant: the line begins with the fields of the first i numbers.
use Rattle.std.proofs.Common.{◌≡◌, refl, ◌∙◌, arith, length}
use mathlib.Core.List.{flat_map}
use Rattle.answer.specs.Lines.{fields_turn, fields_all}
use Rattle.answer.proofs.Output.put_fields.Goals as goal

pub loop-i-init : goal.loop-i-init
unfolding flat_map
loop-i-init c = record { long = refl; written = refl }

pub loop-i-preserved : goal.loop-i-preserved
loop-i-preserved c =
    let l = c.loop-i in
    let a = c.args in
    record {
      long = c.write_field.auto.line ∙ l.invariant.long;
      written = rw c.write_field.ensures.written (fields_turn l.line a.numbers.now l.i l.invariant.long (omega arith) c.loop-i-test.true l.invariant.written);
    }

pub returns : goal.returns
returns c =
    let l = c.loop-i in
    let n = length c.args.numbers.now in
    let e : l.i ≡ n = omega arith in
    rw (← fields_all l.line c.args.numbers.now n refl (rw e at l.invariant.written)) c.put_line.ensures
