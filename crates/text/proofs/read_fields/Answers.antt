-- `read_fields`: so many fields are in their places, and the next is one more, or none.
use Rattle.std.proofs.Common.{refl, sym, ap, ◌∙◌, rules, arith}
use Rattle.definitions.specs.Fields.{six_at}
use Rattle.definitions.specs.Reading.{read_field}
use Rattle.text.specs.ReadSteps.{fields_begun, fields_next, fields_broken, fields_ended}
use Rattle.text.specs.Returns.{stopped}
use Rattle.text.proofs.read_fields.Goals as goal

pub loop-x-init : goal.loop-x-init
loop-x-init g c = record { place = omega arith; going = fields_begun _ _ _ _ _ refl c.requires }

pub returns-in_err-x : goal.returns-in_err-x
returns-in_err-x g c =
    let i = c.loop-x.invariant in
    let there = ap (read_field (six_at g.F.FieldReading.says) c.args.text.now) (sym i.place) in
    stopped _ _ _ _ c.from_residual.ensures.1 (fields_broken _ _ _ _ _ _ i.going _ c.loop-x-test.true (there ∙ c.in_err-x.ensures))

pub overflow_add-place : goal.overflow_add-place
overflow_add-place g c =
    let i = c.loop-x.invariant in
    let there = ap (read_field (six_at g.F.FieldReading.says) c.args.text.now) (sym i.place) in
    let read = c.in_ok-x.ensures in
    let inside = (fields_next _ _ _ _ _ _ i.going _ c.loop-x-test.true (read.0, there ∙ read.1, read.2)).inside in
    search rules

pub loop-x-preserved : goal.loop-x-preserved
loop-x-preserved g c =
    let i = c.loop-x.invariant in
    let there = ap (read_field (six_at g.F.FieldReading.says) c.args.text.now) (sym i.place) in
    let read = c.in_ok-x.ensures in
    record { place = omega (arith, i.place); going = fields_next _ _ _ _ _ _ i.going _ c.loop-x-test.true (read.0, there ∙ read.1, read.2) }

pub returns : goal.returns
returns g c = (c.loop-x.out, fields_ended _ _ _ _ _ _ c.loop-x.invariant.going (omega arith), refl)
