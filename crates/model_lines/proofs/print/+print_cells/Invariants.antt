use Rattle.std.proofs.Common.{length}
use Rattle.model_lines.proofs.print.+print_cells.Given as goal

abbrev pub decreases-print_cells : goal.decreases-print_cells
decreases-print_cells l = length l.cells.now
