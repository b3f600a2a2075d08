use Rattle.std.proofs.Common.{◌≡◌, take}
use Rattle.cell_refs.specs.declared.cell.Cell.{Cell}
use Rattle.solver_names.specs.Constraints.{is_among}
use Rattle.solver_names.specs.Stated.{is_marked}
use Rattle.solver_names.proofs.stated.left_cells.Given as goal

-- the cells so far are those of the constraints so far
abbrev pub invariant-loop-constraint : goal.invariant-loop-constraint
invariant-loop-constraint l = (c : Cell) → is_among l.cells c ≡ is_marked l.code (take l.constraint-index l.constraints) c
