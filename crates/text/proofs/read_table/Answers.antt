-- `read_table`: the rows, then the check of their blocks on the lent table.
use mathlib.Core.Path.{◌≡◌, ap, ◌∙◌}
use Prim.Native.Nat.{ℕ}
use lib.ListN.{length, length-replicate}
use Rattle.definitions.specs.Limits.{table_places}
use Rattle.text.specs.ReadSteps.{judged_stop}
use Rattle.text.specs.Returns.{stopped}
use Rattle.text.specs.PieceReading.{table_judged}
use Rattle.text.proofs.read_table.Goals as goal

pub returns-in_err-read_rows : goal.returns-in_err-read_rows
returns-in_err-read_rows c = λ vs long. stopped _ _ _ _ c.from_residual.ensures.1 (judged_stop _ _ _ c.in_err-read_rows.ensures)

pub returns : goal.returns
returns c =
    let p = c.requires in
    let long : length c.read_rows.new.table ≡ table_places = c.read_rows.auto.table ∙ ap length p.3 ∙ length-replicate {A = ℕ} table_places 0 in
    table_judged _ _ _ _ c.in_ok-read_rows.ensures p.1 p.2 long _ c.judge_blocks.ensures
