use Rattle.std.proofs.Common.{sym, subst}
use Rattle.std.proofs.lemmas.Result.{IfOk-weaker}
use Rattle.linear_models.specs.Laws.{GivesPoints}
use Rattle.linear_models.proofs.Points.{standard_keeps_points}
use Rattle.lin_model.proofs.model.LinModel.standard.Goals as goal

pub returns-clause-points : goal.returns-clause-points
returns-clause-points c =
    IfOk-weaker c.put_together.result _ _
    (λ p e. subst (GivesPoints c.args.self.now c.args.within.now c.args.plain) (sym e) (standard_keeps_points.points c.args.self.now c.args.within.now c.args.plain c.whole-whole.ensures.valid c.requires.fits))
    c.put_together.ensures
