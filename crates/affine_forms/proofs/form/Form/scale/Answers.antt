use Rattle.std.proofs.Common.{◌<◌, length}
use Rattle.affine_forms.specs.Answers.{NeedsRoom}
use Rattle.affine_forms.specs.Steps.{scaled}
use Rattle.affine_forms.proofs.Wholes.{multiple_stops, multiple_gives, multiple_wants, multiple_is_form, part_wants}
use Rattle.affine_forms.proofs.form.Form.scale.Goals as goal

pub returns-in_err-terms-clause-answer : goal.returns-in_err-terms-clause-answer
returns-in_err-terms-clause-answer c =
    multiple_stops c.args.self.now c.args.k c.base.result c.in_ok-base.base c.terms.result.now c.base.ensures c.terms.ensures.terms c.in_ok-base.ensures.0 c.in_ok-base.ensures.1 c.in_err-terms.field-0.0 _
    c.from_residual-in_err-terms.ensures.1 c.in_err-terms.ensures.narrow

pub returns-in_err-terms-clause-in_place : goal.returns-in_err-terms-clause-in_place
returns-in_err-terms-clause-in_place c =
    part_wants c.in_err-terms.field-0.0 c.from_residual-in_err-terms.result (NeedsRoom (scaled c.args.k c.args.self.now)) c.from_residual-in_err-terms.ensures.1
    (λ m.
    multiple_wants c.args.self.now c.args.k c.base.result c.in_ok-base.base c.terms.result.now c.base.ensures c.terms.ensures.terms c.in_ok-base.ensures.0 c.in_ok-base.ensures.1
    (c.in_err-terms.ensures.in_place m))

pub invariant_of-result : goal.invariant_of-result
invariant_of-result c =
    multiple_is_form c.in_ok-base.base c.args.k c.args.self.now c.terms.result.now c.in_ok-terms.terms c.terms.ensures.terms c.terms.ensures.form c.in_ok-terms.ensures.narrow

pub returns-clause-answer : goal.returns-clause-answer
returns-clause-answer c =
    multiple_gives c.args.self.now c.args.k c.base.result c.in_ok-base.base c.terms.result.now c.base.ensures c.terms.ensures.terms c.in_ok-base.ensures.0 c.in_ok-base.ensures.1 c.in_ok-terms.terms
    c.in_ok-terms.ensures.narrow

pub returns-in_err-terms-clause-few : goal.returns-in_err-terms-clause-few
returns-in_err-terms-clause-few c =
    part_wants c.in_err-terms.field-0.0 c.from_residual-in_err-terms.result (2 < length c.args.self.now.terms) c.from_residual-in_err-terms.ensures.1
    (λ m. rw c.terms.ensures.terms at (c.in_err-terms.ensures.few m))
