use Rattle.std.proofs.Common.{sym, ◌∙◌, [], append-nil}
use Rattle.linear_models.specs.Conditions.{constraint_of}
use Rattle.optimality.specs.Kinds.{relation_of}
use Rattle.lin_model.proofs.RowsLeft.{left_bound, pushed_left}
use Rattle.lin_model.proofs.rows.push_left.Goals as goal

pub returns-in-Some-clause-pushed : goal.returns-in-Some-clause-pushed
returns-in-Some-clause-pushed c = ([], left_bound (constraint_of c.args.row.now c.args.sides.now) _ (sym c.decision_of.ensures ∙ c.in-Some.is), sym (append-nil _))

pub returns-in-Some-clause-forms : goal.returns-in-Some-clause-forms
returns-in-Some-clause-forms c = (c.terms-left_terms.ensures.form, c.terms-right_terms.ensures.form)

pub returns-in-None-clause-pushed : goal.returns-in-None-clause-pushed
returns-in-None-clause-pushed c =
    pushed_left (constraint_of c.args.row.now c.args.sides.now) (relation_of c.relation.result) _ _ _ c.relation.ensures (sym c.decision_of.ensures ∙ c.in-None.is) c.push_difference.ensures

pub returns-in-None-clause-forms : goal.returns-in-None-clause-forms
returns-in-None-clause-forms c = (c.terms-left_terms.ensures.form, c.terms-right_terms.ensures.form)
