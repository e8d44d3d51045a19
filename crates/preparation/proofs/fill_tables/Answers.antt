-- `fill_tables`: the array is cleared, and the tables are stored.
use Rattle.std.proofs.Common.{◌≡◌, ap, ◌∙◌, length, replicate, rules}
use Rattle.preparation.proofs.fill_tables.Goals as goal

pub store_tables-requires : goal.store_tables-requires
store_tables-requires c =
    let cleared : c.fill.new.self ≡ replicate (length c.args.tables.now) 0 = search rules in
    cleared ∙ ap (λ n. replicate n 0) c.if-tables-eq-TABLES.true
