use Rattle.std.proofs.Common.{◌≡◌}
use Rattle.cell_refs.specs.Areas.{cells_of}
use Rattle.solver_names.specs.Faults.{other_cell}
use Rattle.solver_names.proofs.CellLists.{other_from}
use Rattle.solver_names.proofs.cells.Cells.other_in.Given as goal

-- the first such cell is that of the cells that are left
abbrev pub invariant-loop-place : goal.invariant-loop-place
invariant-loop-place l = other_cell l.self (cells_of l.area) ≡ other_from l.self l.area l.place
