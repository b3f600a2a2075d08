use Rattle.std.proofs.Common.{ap, ◌∙◌, subst}
use Rattle.form_values.specs.Trials.{Answers}
use Rattle.form_values.specs.declared.abs.AbsArg.TheVariants.{One}
use Rattle.form_table.specs.Logic.{truths_of, of_truths, first_error}
use Rattle.form_ops.specs.SeenLogicals.{concluded}
use Rattle.form_ops.proofs.Answering.{then_answers}
use Rattle.form_ops.proofs.Junctions.{concluded_all}
use Rattle.form_ops.proofs.logic.junction.Goals as goal

pub returns : goal.returns
returns c =
    let d = c.args.deciding in
    let ts = truths_of 0 c.args.args.now in
    rw c.as_one.ensures
    (then_answers One (of_truths d ts (first_error ts)) c.conclusion.result
    (subst (λ t. Answers t c.conclusion.result) (ap (concluded d) c.in_ok-seen.ensures ∙ concluded_all d ts) c.conclusion.ensures))
