-- `answer::list_input` meets its contract: the buffer has a place more than a text may have bytes, so the front of an input says enough.
use Rattle.std.proofs.Common.{◌∙◌, ap, List, ℕ, arith}
use Rattle.definitions.specs.Entries.{write_listing}
use Rattle.answer.proofs.Front.{part_read, front_listed}
use Rattle.answer.proofs.list_input.Goals as goal

-- as many of its bytes are listed as were read, or all of them
pub returns : goal.returns
returns c =
    let a = c.args in
    let long = c.told-buffer in
    let listed = c.write_listing.ensures ∙ ap (λ (text : List ℕ). write_listing text a.out.now) (part_read a.buffer.now a.read _ (omega (arith, c.min-end.ensures, long))) in
    record { listed = listed; whole = λ input e. listed ∙ front_listed input a.buffer.now a.out.now a.read long e }
