-- `read_rows`: the table holds the first i rows, and the definition reads the others from the place reached on.
use mathlib.Core.Path.{◌≡◌, ap, ◌∙◌}
use Prim.Native.Nat.{ℕ, ◌+◌, ◌*◌, ◌≤◌}
use native.Mathlib.Omega.{arith}
use mathlib.Core.List.{List}
use lib.ListN.{length, replicate, length-replicate}
use Rattle.text.specs.Padding.{part_size, part_long, part_put, part_kept}
use Rattle.definitions.specs.Limits.{row_places, table_places}
use Rattle.text.specs.RowReading.{rows_begun, rows_turn, rows_broken, rows_ended}
use Rattle.text.specs.Returns.{stopped}
use Rattle.text.proofs.read_rows.Goals as goal

table_long : (xs : List ℕ) → xs ≡ replicate table_places 0 → length xs ≡ table_places
table_long xs e = ap length e ∙ length-replicate {A = ℕ} table_places 0

pub loop-i-init : goal.loop-i-init
loop-i-init c = record { long = table_long _ c.requires.2; going = rows_begun _ _ _ _ c.requires.2 c.requires.0 }

pub returns-in_err-read_row : goal.returns-in_err-read_row
returns-in_err-read_row c =
    let l = c.loop-i in
    let row_fits : row_places * l.i + c.args.m ≤ length l.table = omega (arith, c.requires.1, l.invariant.long) in
    stopped _ _ _ _ c.from_residual.ensures.1 (rows_broken _ _ _ _ _ _ l.invariant.going c.requires.1 c.loop-i-test.true _ (rw (part_size _ _ _ row_fits) at c.in_err-read_row.ensures))

pub loop-i-preserved : goal.loop-i-preserved
loop-i-preserved c =
    let l = c.loop-i in
    let row_fits : row_places * l.i + c.args.m ≤ length l.table = omega (arith, c.requires.1, l.invariant.long) in
    let r = c.read_row in
    let part = r.new.out in
    let lent = r.auto.out in
    let long = part_long (row_places * l.i) c.args.m l.table part lent row_fits in
    let g = rows_turn _ _ _ _ _ _ l.invariant.going c.requires.1 c.loop-i-test.true part (rw (part_size _ _ _ row_fits) at c.in_ok-read_row.ensures) long in
    record { long = part_kept _ _ _ part lent row_fits ∙ l.invariant.long; going = rw (part_put (row_places * l.i) c.args.m l.table part lent row_fits) g }

pub returns : goal.returns
returns c = rows_ended _ _ _ _ _ _ c.loop-i.invariant.going (omega arith)
