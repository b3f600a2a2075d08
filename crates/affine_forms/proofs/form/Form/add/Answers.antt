use Rattle.std.proofs.Common.{◌<◌, ◌+◌, length}
use Rattle.affine_forms.specs.Answers.{NeedsRoom}
use Rattle.affine_forms.specs.Steps.{added}
use Rattle.affine_forms.proofs.Wholes.{sum_stops, sum_gives, sum_wants, sum_is_form, part_wants}
use Rattle.affine_forms.proofs.form.Form.add.Goals as goal

pub returns-in_err-terms-clause-answer : goal.returns-in_err-terms-clause-answer
returns-in_err-terms-clause-answer c =
    sum_stops c.args.self.now c.args.other.now c.base.result c.base-2.result c.in_ok-base.base c.terms.result.now c.terms-2.result.now c.base.ensures c.base-2.ensures c.terms.ensures.terms c.terms-2.ensures.terms
    c.in_ok-base.ensures.0 c.in_ok-base.ensures.1 c.in_err-terms.field-0.0 _ c.from_residual-in_err-terms.ensures.1 c.in_err-terms.ensures.narrow

pub returns-in_err-terms-clause-in_place : goal.returns-in_err-terms-clause-in_place
returns-in_err-terms-clause-in_place c =
    part_wants c.in_err-terms.field-0.0 c.from_residual-in_err-terms.result (NeedsRoom (added c.args.self.now c.args.other.now)) c.from_residual-in_err-terms.ensures.1
    (λ m.
    sum_wants c.args.self.now c.args.other.now c.base.result c.base-2.result c.in_ok-base.base c.terms.result.now c.terms-2.result.now c.base.ensures c.base-2.ensures c.terms.ensures.terms
    c.terms-2.ensures.terms c.in_ok-base.ensures.0 c.in_ok-base.ensures.1 (c.in_err-terms.ensures.in_place m))

pub invariant_of-result : goal.invariant_of-result
invariant_of-result c =
    sum_is_form c.in_ok-base.base c.args.self.now c.args.other.now c.terms.result.now c.terms-2.result.now c.in_ok-terms.terms c.terms.ensures.terms c.terms-2.ensures.terms c.terms.ensures.form c.terms-2.ensures.form
    c.in_ok-terms.ensures.narrow

pub returns-clause-answer : goal.returns-clause-answer
returns-clause-answer c =
    sum_gives c.args.self.now c.args.other.now c.base.result c.base-2.result c.in_ok-base.base c.terms.result.now c.terms-2.result.now c.base.ensures c.base-2.ensures c.terms.ensures.terms c.terms-2.ensures.terms
    c.in_ok-base.ensures.0 c.in_ok-base.ensures.1 c.in_ok-terms.terms c.in_ok-terms.ensures.narrow

pub returns-in_err-terms-clause-few : goal.returns-in_err-terms-clause-few
returns-in_err-terms-clause-few c =
    part_wants c.in_err-terms.field-0.0 c.from_residual-in_err-terms.result (2 < length c.args.self.now.terms + length c.args.other.now.terms) c.from_residual-in_err-terms.ensures.1
    (λ m. rw (c.terms.ensures.terms, c.terms-2.ensures.terms) at (c.in_err-terms.ensures.few m))
