use Rattle.std.proofs.Common.{◌≡◌, take, map}
use Rattle.linear_programs.specs.Program.{cell_number}
use Rattle.dictionaries.specs.Reading.{change_along, point_of}
use Rattle.simplex.proofs.read.changes_of_cells.Given as goal

abbrev pub invariant-loop-cell : goal.invariant-loop-cell
invariant-loop-cell l = l.made.items ≡ map (cell_number (point_of l.of (change_along l.dict l.col))) (take l.cell-index l.of.columns)
