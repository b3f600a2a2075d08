use Rattle.std.proofs.Common.{sym, ap, subst, [], ◌∷◌}
use Rattle.optimality.specs.Problem.{Goal, equal}
use Rattle.calculations.specs.Calculation.{turned_into}
use Rattle.affine_forms.specs.Forms.{AffineForm}
use Rattle.affine_forms.specs.Steps.{subtracted}
use Rattle.linear_models.specs.Linear.{reaching}
use Rattle.lin_model.specs.Inner.{Pushed}
use Rattle.optimality.specs.Kinds.{goal_of}
use Rattle.lin_model.proofs.rows.push_reaching.Goals as goal

pub returns-in-Reach : goal.returns-in-Reach
returns-in-Reach c =
    let before = c.args.rows.now.items in
    let after = c.push_difference-in-Reach.new.rows.items in
    let result = c.push_difference-in-Reach.result in
    subst (λ (g : Goal). Pushed (reaching g c.args.objective.now) before after result) (sym (ap goal_of c.in-Reach.is))
    (subst (λ (k : AffineForm). Pushed (turned_into (λ d. (d, equal) ∷ []) (subtracted c.args.objective.now k)) before after result) c.constant.ensures c.push_difference-in-Reach.ensures)
