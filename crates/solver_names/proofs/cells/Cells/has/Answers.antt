use Rattle.std.proofs.Common.{◌∙◌, ap, sym}
use Rattle.solver_names.specs.Constraints.{is_among}
use Rattle.solver_names.specs.Counts.{is_covered}
use Rattle.solver_names.proofs.AreaCells.{among_by_top}
use Rattle.solver_names.proofs.cells.Cells.has.Goals as goal

pub returns : goal.returns
returns c =
    c.is_covered.ensures ∙ ap (λ areas. is_covered areas c.args.cell) c.deref.ensures.value
    ∙ sym (among_by_top c.self.inside.areas.items c.self.inside.by_top.items c.self.invariant c.args.cell) ∙ ap (λ cells. is_among cells c.args.cell) c.self.view_is
