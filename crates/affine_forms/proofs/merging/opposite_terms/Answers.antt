use Rattle.std.proofs.Common.{arith}
use Rattle.affine_forms.proofs.TermSteps.{rest_from}
use Rattle.affine_forms.proofs.Places.{at_err, negated_long}
use Rattle.affine_forms.proofs.merging.opposite_terms.Goals as goal

pub returns-in_err-push-clause-in_place : goal.returns-in_err-push-clause-in_place
returns-in_err-push-clause-in_place c =
    let rest = rest_from c.args.terms.now c.loop-j.j-index c.loop-j-item.result (omega arith) c.loop-j-item.is in
    at_err c.from_residual.result _ (negated_long _ _ _ _ c.loop-j-item.result c.loop-j.invariant rest c.in_err-push.ensures.in_place)
