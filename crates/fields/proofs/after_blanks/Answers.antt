-- `fields::after_blanks` meets its contract: a blank is passed over, and at another byte or at the end nothing more is.
use Rattle.std.proofs.Common.{rules, sym, ap, ◌∙◌, ◌-◌, length, drop, take_all, length-drop, add-one, arith}
use Rattle.std.proofs.lemmas.List.{at_drop_all}
use Rattle.definitions.specs.Fields.{skip_blanks}
use Rattle.fields.specs.SixColumns.{skip_blank, skip_none}
use Rattle.fields.proofs.after_blanks.Goals as goal

pub returns-then-b-ne32 : goal.returns-then-b-ne32
returns-then-b-ne32 c =
    let bytes = c.args.bytes.now in
    let i = c.loop-i.i in
    take_all (length bytes - i) (drop i bytes) (omega (arith, length-drop i bytes)) ∙ sym (skip_none bytes i (search rules) c.if-b-ne32.true) ∙ c.loop-i.invariant

pub loop-i-preserved : goal.loop-i-preserved
loop-i-preserved c =
    let bytes = c.args.bytes.now in
    let i = c.loop-i.i in
    ap (λ k. skip_blanks (drop k bytes)) (add-one i) ∙ sym (skip_blank bytes i (search rules) c.if-b-ne32.false) ∙ c.loop-i.invariant

pub returns : goal.returns
unfolding skip_blanks
returns c = sym (at_drop_all skip_blanks c.args.bytes.now c.loop-i.i (search rules)) ∙ c.loop-i.invariant
