-- `answer::Output::put_refusal` meets its contract: ten digits are room for any number.
use Rattle.std.proofs.Common.{arith}
use Rattle.fields.specs.NineColumns.{decimal_few}
use Rattle.answer.specs.Lines.{refusal_is}
use Rattle.answer.specs.Output.{puts_both}
use Rattle.answer.proofs.Output.put_refusal.Goals as goal

pub put_number-requires : goal.put_number-requires
put_number-requires c =
    let p = c.put_bytes.ensures in
    omega (arith, p.behind, p.long, decimal_few c.args.number)

pub put_byte-requires : goal.put_byte-requires
put_byte-requires c =
    let p = c.put_bytes.ensures in
    let q = c.put_number.ensures in
    omega (arith, p.behind, p.long, q.behind, q.long, decimal_few c.args.number)

pub returns : goal.returns
returns c = rw (← refusal_is _) (puts_both (puts_both c.put_bytes.ensures c.put_number.ensures (omega arith)) c.put_byte.ensures (omega arith))
