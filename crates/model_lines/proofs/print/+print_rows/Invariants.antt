use Rattle.std.proofs.Common.{length}
use Rattle.model_lines.proofs.print.+print_rows.Given as goal

abbrev pub decreases-print_rows : goal.decreases-print_rows
decreases-print_rows l = length l.numbers.now
