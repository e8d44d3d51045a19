-- `fields::write_field` meets its contract: 1, then 4, and else the part between the columns before and after it is replaced.
use mathlib.Core.Path.{◌≡◌}
use Prim.Native.Nat.{◌+◌, ◌-◌, ◌*◌}
use native.Mathlib.Omega.{arith}
use borrow.Author.Tests.{eq-eqb, ne_eqb, le-leb, lt-leb}
use lib.Seq.{drop-drop}
use Rattle.definitions.specs.Limits.{column_bytes}
use Rattle.definitions.specs.Lists.{first_cause}
use Rattle.definitions.specs.Entries.{has_places, judge_write, write_field}
use Rattle.fields.proofs.write_field.Goals as goal

pub returns-then-line-ne-BYTES : goal.returns-then-line-ne-BYTES
unfolding write_field judge_write has_places first_cause
returns-then-line-ne-BYTES c =
    let size = ne_eqb _ _ c.if-line-ne-BYTES.true in
    record { number = simp size; written = simp size }

pub returns-then-place-gt-LAST_PLACE : goal.returns-then-place-gt-LAST_PLACE
unfolding write_field judge_write has_places first_cause
returns-then-place-gt-LAST_PLACE c =
    let size = eq-eqb _ _ c.if-line-ne-BYTES.false in
    let place = lt-leb _ _ c.if-place-gt-LAST_PLACE.true in
    record { number = simp (size, place); written = simp (size, place) }

pub returns : goal.returns
unfolding write_field judge_write has_places first_cause
returns c =
    let a = c.args in
    let long = eq-eqb _ _ c.if-line-ne-BYTES.false in
    let place = le-leb _ _ c.if-place-gt-LAST_PLACE.false in
    let nine : column_bytes * a.place + column_bytes - column_bytes * a.place ≡ column_bytes = omega arith in
    record { number = simp (long, place); written = simp (long, place) (rw (c.fill_number.ensures, nine, drop-drop column_bytes (column_bytes * a.place) a.line.now)) }
