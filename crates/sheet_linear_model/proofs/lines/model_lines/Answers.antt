use Rattle.sheet_linear_model.specs.Answers.{prepared_of}
use Rattle.sheet_linear_model.proofs.Printed.{groups_are_decisions, objective_reaches, one_mark_each}
use Rattle.sheet_linear_model.proofs.lines.model_lines.Goals as goal

pub new-requires-clause-marks : goal.new-requires-clause-marks
new-requires-clause-marks c = one_mark_each c.requires.0 c.requires.1 (prepared_of c.args.of) c.requires.2

pub new-requires-clause-reach : goal.new-requires-clause-reach
new-requires-clause-reach c = objective_reaches c.requires.0 c.requires.1 (prepared_of c.args.of) c.requires.2

pub new-requires-clause-groups : goal.new-requires-clause-groups
new-requires-clause-groups c = groups_are_decisions c.requires.0 c.requires.1 (prepared_of c.args.of) c.requires.2
