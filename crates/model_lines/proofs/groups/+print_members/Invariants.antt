use Rattle.std.proofs.Common.{length}
use Rattle.model_lines.proofs.groups.+print_members.Given as goal

abbrev pub decreases-print_members : goal.decreases-print_members
decreases-print_members l = length l.group.now
