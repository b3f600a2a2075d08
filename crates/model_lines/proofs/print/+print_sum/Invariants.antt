use Rattle.std.proofs.Common.{length}
use Rattle.model_lines.proofs.print.+print_sum.Given as goal

abbrev pub decreases-print_sum : goal.decreases-print_sum
decreases-print_sum l = length l.terms.now
