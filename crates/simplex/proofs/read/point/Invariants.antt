use Rattle.std.proofs.Common.{◌≡◌, take, map}
use Rattle.linear_programs.specs.Program.{cell_number}
use Rattle.dictionaries.specs.Reading.{basic_solution, point_of}
use Rattle.simplex.proofs.read.point.Given as goal

abbrev pub invariant-loop-cell : goal.invariant-loop-cell
invariant-loop-cell l = l.made.items ≡ map (cell_number (point_of l.of (basic_solution l.dict))) (take l.cell-index l.of.columns)
