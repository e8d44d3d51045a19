-- `fields::after_blanks`: the bytes before place i are blanks.
use Rattle.std.proofs.Common.{◌≡◌, drop}
use Rattle.definitions.specs.Fields.{skip_blanks}
use Rattle.fields.proofs.after_blanks.Given as goal

abbrev pub invariant-loop-i : goal.invariant-loop-i
invariant-loop-i l = skip_blanks (drop l.i l.bytes) ≡ skip_blanks l.bytes
