use Rattle.std.proofs.Common.{length}
use Rattle.commands.proofs.refusals.+say_further_steps.Given as goal

abbrev pub decreases-say_further_steps : goal.decreases-say_further_steps
decreases-say_further_steps l = length l.steps.now
