use Rattle.std.proofs.Common.{◌∙◌, ap, length, subst, sym}
use Rattle.solver_names.specs.Counts.{IsRising, on_all_sheets}
use Rattle.solver_names.proofs.AreaCells.{cells_counted}
use Rattle.solver_names.proofs.cells.Cells.len.Goals as goal

pub cells_in-requires : goal.cells_in-requires
cells_in-requires c = record { rising = subst IsRising (sym c.deref.ensures.value) c.self.invariant.rising }

pub returns : goal.returns
returns c =
    c.cells_in.ensures ∙ ap on_all_sheets c.deref.ensures.value ∙ cells_counted c.self.inside.areas.items c.self.inside.by_top.items c.self.invariant ∙ ap length c.self.view_is
