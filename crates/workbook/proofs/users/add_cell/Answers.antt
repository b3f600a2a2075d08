use Rattle.std.proofs.Common.{◌∙◌}
use Rattle.std.specs.BTreeMap.{is_at}
use Rattle.std.specs.BTreeSet.{contains}
use Rattle.cell_refs.specs.Cells.{cell_cmp}
use Rattle.workbook.proofs.Covered.{still_there}
use Rattle.workbook.proofs.users.add_cell.Goals as goal

pub returns-in-Ok-clause-others : goal.returns-in-Ok-clause-others
returns-in-Ok-clause-others c = λ q has.
    c.in-Ok.ensures.updates.0 q ∙ still_there (is_at (cell_cmp c.args.cell) q) (contains cell_cmp c.args.cells.now q) has
