use Rattle.std.proofs.Common.{◌≡◌, sym, ap, ◌∙◌, subst, arith, List, length, map, Ok, Err}
use Rattle.optimality.specs.Problem.{Goal}
use Rattle.calculations.specs.Calculation.{narrow}
use Rattle.linear_models.specs.Conditions.{Condition, constraints, goal_or_greatest, objective_where}
use Rattle.linear_models.specs.Linear.{form_or_zero, reaching, row_left}
use Rattle.lin_model.specs.Inner.{AreBuilt}
use Rattle.lin_model.proofs.RowsLeft.{all_built, last_wide, stopped_all, reaching_same, length-constraints, same_length}
use Rattle.lin_model.proofs.building.all_rows.Goals as goal

pub rows_left-requires-clause-few : goal.rows_left-requires-clause-few
rows_left-requires-clause-few c = omega (arith, same_length c.args.of.now.rows c.args.sides.now c.requires.one_each, c.requires.stated.few_rows, ap length c.rows.ensures)

pub overflow_cast-result : goal.overflow_cast-result
overflow_cast-result c = omega (arith, same_length c.args.of.now.rows c.args.sides.now c.requires.one_each, c.requires.stated.few_rows, c.requires.one_each)

pub overflow_add-result : goal.overflow_add-result
overflow_add-result c = omega (arith, same_length c.args.of.now.rows c.args.sides.now c.requires.one_each, c.requires.stated.few_rows, c.requires.one_each)

pub returns-in_err-rows-clause-built : goal.returns-in_err-rows-clause-built
returns-in_err-rows-clause-built c =
    let left = subst (λ (rows : List Condition). AreBuilt (map row_left (constraints rows c.args.sides.now)) (Err c.in_err-rows.field-0.0)) c.rows.ensures c.in_err-rows.ensures.built in
    stopped_all (λ rows. rows.items) (map row_left (constraints c.args.of.now.rows c.args.sides.now)) _ c.in_err-rows.field-0.0 c.from_residual.result c.from_residual.ensures.1 left

pub returns-in-Ok-clause-built : goal.returns-in-Ok-clause-built
returns-in-Ok-clause-built c =
    let left = subst (λ (rows : List Condition). AreBuilt (map row_left (constraints rows c.args.sides.now)) (Ok c.in_ok-rows.rows.items)) c.rows.ensures c.in_ok-rows.ensures.built in
    let same : reaching _ c.args.objective.now ≡ reaching _ (form_or_zero (objective_where c.args.of.now.goal c.args.objective.now)) =
    ap (λ (g : Goal). reaching g c.args.objective.now) (c.goal_left.ensures ∙ ap goal_or_greatest c.goal.ensures) ∙ reaching_same c.args.of.now.goal c.args.objective.now in
    let p = c.in-Ok.ensures in
    all_built (map row_left (constraints c.args.of.now.rows c.args.sides.now)) _ c.in_ok-rows.rows.items p.0 c.push_reaching.new.rows.items left (ap narrow (sym same) ∙ p.1) p.2

pub returns-in-Err-Wide-clause-built : goal.returns-in-Err-Wide-clause-built
returns-in-Err-Wide-clause-built c =
    let left = subst (λ (rows : List Condition). AreBuilt (map row_left (constraints rows c.args.sides.now)) (Ok c.in_ok-rows.rows.items)) c.rows.ensures c.in_ok-rows.ensures.built in
    let same : reaching _ c.args.objective.now ≡ reaching _ (form_or_zero (objective_where c.args.of.now.goal c.args.objective.now)) =
    ap (λ (g : Goal). reaching g c.args.objective.now) (c.goal_left.ensures ∙ ap goal_or_greatest c.goal.ensures) ∙ reaching_same c.args.of.now.goal c.args.objective.now in
    last_wide (map row_left (constraints c.args.of.now.rows c.args.sides.now)) _ _ left.1 (ap narrow (sym same) ∙ (rw c.in-Err-Wide.field-0-is at c.in-Err-Wide.ensures))
    (omega (arith, length-constraints c.args.of.now.rows c.args.sides.now c.requires.one_each, c.requires.one_each))
