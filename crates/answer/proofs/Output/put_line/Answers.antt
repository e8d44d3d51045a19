-- `answer::Output::put_line` meets its contract.
use Rattle.std.proofs.Common.{arith}
use Rattle.answer.specs.Output.{puts_both}
use Rattle.answer.proofs.Output.put_line.Goals as goal

pub put_byte-requires : goal.put_byte-requires
put_byte-requires c = let p = c.put_bytes.ensures in omega (arith, p.behind, p.long)

pub returns : goal.returns
returns c = puts_both c.put_bytes.ensures c.put_byte.ensures (omega arith)
