-- `labelling::label_accepted` meets its contract: the prepared arrays are those of the network, and the loop may begin.
use borrow.Author.Rules.{rules}
use Rattle.engine.specs.Labeller.LabelEntry.{may_begin, can_label}
use Rattle.engine.proofs.labelling.label_accepted.Goals as goal

-- ---- needs
pub label_all-requires : goal.label_all-requires
label_all-requires c =
    can_label _ _ _ _ _ _ _ c.requires.0 _ _ _ _ _ _ _ _ _ (search rules) (search rules) c.fill_matrix.ensures c.fill_tables.ensures c.fill_index.ensures c.make_fresh.ensures c.fill.ensures
    c.requires.1 c.fill-2.ensures

pub returns : goal.returns
returns c =
    c.label_all.ensures _ _ _
    (may_begin _ _ _ _ _ _ _ c.requires.0 _ _ _ _ _ _ _ _ _ (search rules) (search rules) c.fill_matrix.ensures c.fill_tables.ensures c.fill_index.ensures c.make_fresh.ensures c.fill.ensures
    c.requires.1 c.fill-2.ensures)
