use Rattle.std.proofs.Common.{◌∙◌, ap, sym}
use Rattle.std.specs.FinSet as set
use Rattle.cell_refs.proofs.Order.{cells_total}
use Rattle.column_strips.proofs.Marked.{seen_is}
use Rattle.column_strips.proofs.marks.Marks.has.Goals as goal

pub returns : goal.returns
returns c =
    c.contains.ensures ∙ seen_is c.self.inside.cells c.self.inside.seen c.self.invariant.0 c.args.cell
    ∙ sym (set.contains-from_list cells_total c.self.inside.cells.items c.args.cell) ∙ ap (λ s. set.contains s c.args.cell) c.self.view_is
