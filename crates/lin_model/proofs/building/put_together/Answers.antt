use Rattle.std.proofs.Common.{◌≡◌, sym, ap, ◌∙◌, subst, Option}
use Rattle.optimality.specs.Problem.{Goal}
use Rattle.linear_models.specs.Conditions.{goal_or_greatest, objective_where, statement_of}
use Rattle.linear_models.specs.Model.{IsValid}
use Rattle.linear_models.specs.Linear.{form_or_zero, linear, objective_left}
use Rattle.linear_models.proofs.Valid.{linear_is_valid}
use Rattle.optimality.specs.Kinds.{goal_of}
use Rattle.lin_model.specs.Lists.{lists_of}
use Rattle.lin_model.proofs.RowsLeft.{all_sides, model_is, stated_objective}
use Rattle.lin_model.proofs.building.put_together.Goals as goal

-- the parts are those of the linear model
parts_are : (c : goal.After-goal_left) → record { goal = goal_of c.goal_left.result; objective = c.in_ok-left.left; rows = c.in_ok-rows.rows.items; whole = c.in_ok-whole.whole.items; bounds = c.in_ok-bounds.bounds; groups = lists_of c.in_ok-groups.groups.items } ≡ linear (statement_of c.args.of.now c.args.objective.now c.args.sides.now)
parts_are c =
    model_is (linear (statement_of c.args.of.now c.args.objective.now c.args.sides.now)) _ _ _ _ _ _
    (c.goal_left.ensures ∙ ap goal_or_greatest c.goal-2.ensures)
    (c.in_ok-left.ensures.left ∙ ap (λ (g : Option Goal). objective_left (goal_or_greatest g) (form_or_zero (objective_where g c.args.objective.now))) c.goal.ensures)
    c.in_ok-rows.ensures.built.0
    c.in_ok-whole.ensures
    c.in_ok-bounds.ensures
    (c.in_ok-groups.ensures ∙ c.groups.ensures)

pub new-requires : goal.new-requires
new-requires c = record {
  valid = subst IsValid (sym (parts_are c)) (linear_is_valid (statement_of c.args.of.now c.args.objective.now c.args.sides.now) c.requires.stated
      (all_sides c.args.of.now.rows c.args.sides.now c.in_ok-rows.ensures.forms)
      (λ f e. stated_objective c.args.of.now.goal c.args.objective.now f c.in_ok-left.ensures.form e));
}
