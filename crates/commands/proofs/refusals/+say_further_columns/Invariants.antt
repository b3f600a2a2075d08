use Rattle.std.proofs.Common.{length}
use Rattle.commands.proofs.refusals.+say_further_columns.Given as goal

abbrev pub decreases-say_further_columns : goal.decreases-say_further_columns
decreases-say_further_columns l = length l.columns.now
