use Rattle.std.proofs.Common.{ap, ◌∙◌, subst}
use Rattle.form_values.specs.Trials.{Answers}
use Rattle.form_ops.specs.SeenNumbers.{of_taken}
use Rattle.form_ops.proofs.BestOfAll.{taken_of_all}
use Rattle.form_ops.proofs.extremes.extreme.Goals as goal

pub returns : goal.returns
returns c =
    subst (λ t. Answers t c.of_taken.result) (ap of_taken c.in_ok-taken.ensures ∙ taken_of_all c.args.extremum c.args.args.now) c.of_taken.ensures
