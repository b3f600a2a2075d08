use Rattle.std.proofs.Common.{subst}
use Rattle.form_values.specs.Trials.{Answers}
use Rattle.form_table.specs.Choosing.{if_open}
use Rattle.form_table.specs.Wanted.{single}
use Rattle.form_ops.specs.Sides.{side_value}
use Rattle.form_ops.proofs.Truth.{choice_true}
use Rattle.form_ops.proofs.choosing.if_test.Goals as goal

pub returns-clause-answer : goal.returns-clause-answer
returns-clause-answer c =
    let t = c.args.form.now in
    subst (λ other. Answers (if_open t c.args.relation (single c.args.holding.now) other) c.if_open.result) c.side_of-2.ensures
    (subst (λ one. Answers (if_open t c.args.relation one (side_value c.side_of-2.result)) c.if_open.result) c.side_of.ensures c.if_open.ensures)

pub returns-clause-right : goal.returns-clause-right
returns-clause-right c = choice_true c.args.form.now c.args.relation c.args.holding.now c.args.failing.now c.if_open.result (returns-clause-answer c)
