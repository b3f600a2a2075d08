use Rattle.std.proofs.Common.{length}
use Rattle.model_lines.proofs.groups.+print_groups.Given as goal

abbrev pub decreases-print_groups : goal.decreases-print_groups
decreases-print_groups l = length l.groups.now
