-- `write_index` fills rows of zeros and stores those that are in use.
use Rattle.std.proofs.Common.{◌∙◌, rules, arith}
use Rattle.index.specs.IndexRows.{zeros_tall, zeros_stored}
use Rattle.index.proofs.entries.write_index.Goals as goal

pub store_rows-requires : goal.store_rows-requires
store_rows-requires c = (search rules, zeros_tall _ c.args.rectangle.now c.args.cols (omega arith) (omega arith) c.fill_index.ensures, search rules)

pub returns : goal.returns
returns c =
    let a = c.args in
    c.store_rows.ensures ∙ zeros_stored _ a.rectangle.now a.cols (omega arith) (omega arith) c.fill_index.ensures a.rows (omega arith)
