use Rattle.std.proofs.Common.{ap, ◌∙◌, arith, length}
use Rattle.lin_model.proofs.FitRows.{all_fit, failed, few_rows_of_fit, rows_of_fit, told_not}
use Rattle.lin_model.proofs.conditions.Conditions.fits.Goals as goal

pub returns-then-n-gt512 : goal.returns-then-n-gt512
returns-then-n-gt512 c = told_not (λ p. absurd (omega (arith, p.1.few, c.decisions-n.ensures, c.if-n-gt512.true)))

pub returns-then-rows-gt256 : goal.returns-then-rows-gt256
returns-then-rows-gt256 c = told_not (λ p. absurd (omega (arith, few_rows_of_fit c.args.self.now c.args.objective.now c.args.sides.now p, ap length c.rows.ensures, c.if-rows-gt256.true)))

pub returns-then-not-objective_fits : goal.returns-then-not-objective_fits
returns-then-not-objective_fits c = failed c.objective_fits.result (rw (c.decisions-n.ensures, c.goal.ensures) at c.objective_fits.ensures) c.if-not-objective_fits.true (λ p. p.1.objective)

pub returns-then-not-rows_fit : goal.returns-then-not-rows_fit
returns-then-not-rows_fit c =
    failed c.rows_fit.result (rw (c.decisions-n.ensures, c.rows-3.ensures) at c.rows_fit.ensures) c.if-not-rows_fit.true (λ p. rows_of_fit c.args.self.now c.args.objective.now c.args.sides.now p)

pub returns : goal.returns
returns c =
    all_fit c.args.self.now c.args.objective.now c.args.sides.now c.groups_fit.result (omega (arith, c.decisions-n.ensures, c.if-n-gt512.false)) (omega (arith, ap length c.rows.ensures, c.if-rows-gt256.false))
    (c.if-sides-rows.false ∙ ap length c.rows-2.ensures)
    ((rw (c.decisions-n.ensures, c.goal.ensures) at c.objective_fits.ensures).0 c.if-not-objective_fits.false)
    ((rw (c.decisions-n.ensures, c.rows-3.ensures) at c.rows_fit.ensures).0 c.if-not-rows_fit.false)
    ((rw (c.decisions-n.ensures, c.whole.ensures) at c.are_below.ensures).0 c.if-not-are_below.false)
    ((rw (c.decisions-n.ensures, c.binary.ensures) at c.are_below-2.ensures).0 c.if-not-are_below-2.false)
    (rw (c.decisions-n.ensures, c.groups.ensures) at c.groups_fit.ensures)
