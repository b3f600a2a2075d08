use Rattle.std.proofs.Common.{◌≡◌, sym, ap, ◌∙◌}
use Rattle.optimality.specs.Problem.{least}
use Rattle.optimality.specs.Kinds.{goal_of}
use Rattle.branch_bound.proofs.Overs.{negated_is_zero, no_objective, has_objective}
use Rattle.branch_bound.proofs.over.has_no_objective.Goals as goal

pub returns-in-Min : goal.returns-in-Min
returns-in-Min c =
    let m = c.args.model.now in
    let e : least ≡ m.goal = sym (ap goal_of c.in-Min.is) ∙ c.goal.ensures in
    let o = c.objective-in-Min.ensures in
    let z = c.is_zero-in-Min.ensures in (
      λ t. no_objective m least e ((negated_is_zero m.objective).0 (sym o ∙ z.0 t)),
      λ h. z.1 (o ∙ (negated_is_zero m.objective).1 (has_objective m least e h)),
    )
