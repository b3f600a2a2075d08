use Rattle.std.proofs.Common.{ℕ, length, false, sym, subst}
use Rattle.affine_forms.specs.Assigned.{ReachTo}
use Rattle.affine_forms.specs.Forms.{AffineForm}
use Rattle.optimality.specs.Kinds.{goal_of}
use Rattle.linear_models.proofs.Regular.{wanted_reach}
use Rattle.optcheck_cli.proofs.Values.{judged_by}
use Rattle.optcheck_cli.proofs.value.judge_point.Goals as goal

pub eval-requires : goal.eval-requires
eval-requires c =
    subst (λ (n : ℕ). ReachTo c.in_ok-wanted.wanted.terms n) (sym c.requires)
    (subst (λ (f : AffineForm). ReachTo f.terms (length c.args.of.now.model.whole)) (sym c.in_ok-wanted.ensures.form) (wanted_reach c.args.of.now.model false c.whole-marks.ensures.valid))

pub returns-in-Ok : goal.returns-in-Ok
returns-in-Ok c =
    judged_by c.args.of.now.model c.in_ok-wanted.wanted c.args.point.now c.args.of.now.statement.objective (goal_of c.args.of.now.statement.goal) c.args.value c.in-Ok.greatest c.objective_value-told.result
    c.compared.result c.in_ok-wanted.ensures.form c.in-Ok.ensures c.objective_value-told.ensures c.compared.ensures
