use Rattle.std.proofs.Common.{◌∙◌, ap, sym}
use Rattle.std.specs.FinSet as set
use Rattle.cell_refs.proofs.Order.{cells_total}
use Rattle.dep_table.proofs.cells.CellSet.has.Goals as goal

pub returns : goal.returns
returns c =
    c.contains.ensures ∙ sym (set.contains-from_list cells_total c.self.inside.cells.keys c.args.cell) ∙ ap (λ s. set.contains s c.args.cell) c.self.view_is
