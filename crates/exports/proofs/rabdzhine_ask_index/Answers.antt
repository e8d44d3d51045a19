-- `rabdzhine_ask_index`: the struct is that of the answer, in each of its three cases.
use Rattle.definitions.specs.Causes.{number_of}
use Rattle.definitions.specs.Index.{a_column, no_column, turned_away}
use Rattle.exports.specs.AskEntryLaws.{in_struct}
use Rattle.exports.proofs.rabdzhine_ask_index.Goals as goal

pub returns-in-Ok-Some : goal.returns-in-Ok-Some
returns-in-Ok-Some c =
    let v = c.in-Ok-Some in
    let h = rw (v.is, v.field-0-is) at c.ask_index.ensures in
    let parts = in_struct _ _ _ _ _ _ _ (a_column v.column) (h.asked, h.plain) in
    record { asked = parts.0; plain = parts.1 }

pub returns-in-Ok-None : goal.returns-in-Ok-None
returns-in-Ok-None c =
    let v = c.in-Ok-None in
    let h = rw (v.is, v.field-0-is) at c.ask_index.ensures in
    let parts = in_struct _ _ _ _ _ _ _ no_column (h.asked, h.plain) in
    rw c.number.ensures (record { asked = parts.0; plain = parts.1 })

pub returns-in-Err : goal.returns-in-Err
returns-in-Err c =
    let v = c.in-Err in
    let h = rw v.is at c.ask_index.ensures in
    let parts = in_struct _ _ _ _ _ _ _ (turned_away (number_of v.cause)) (h.asked, h.plain) in
    rw c.number-in-Err.ensures (record { asked = parts.0; plain = parts.1 })
