use Rattle.std.proofs.Common.{◌≡◌, ◌<◌, ◌+◌, length, arith, ap, refl}
use Rattle.affine_forms.specs.Answers.{NeedsRoom}
use Rattle.affine_forms.specs.Forms.{AffineForm}
use Rattle.affine_forms.specs.Steps.{added}
use Rattle.affine_forms.proofs.Wholes.{sum_stops_at, sum_gives, sum_wants, sum_is_form, part_wants}
use Rattle.affine_forms.proofs.form.Form.add_to.Goals as goal

pub returns-in_err-add_terms-clause-answer : goal.returns-in_err-add_terms-clause-answer
returns-in_err-add_terms-clause-answer c =
    sum_stops_at c.args.self.now c.args.other.now c.self.inside.base c.base.result c.in_ok-base.base c.self.inside.terms c.terms.result.now (ap (λ (f : AffineForm). f.constant) c.self.view_is) c.base.ensures
    (ap (λ (f : AffineForm). f.terms) c.self.view_is) c.terms.ensures.terms c.in_ok-base.ensures.0 c.in_ok-base.ensures.1 c.in_err-add_terms.field-0.0 c.from_residual-in_err-add_terms.result _
    c.from_residual-in_err-add_terms.ensures.1 c.in_err-add_terms.ensures.answer

pub returns-in_err-add_terms-clause-in_place : goal.returns-in_err-add_terms-clause-in_place
returns-in_err-add_terms-clause-in_place c =
    part_wants c.in_err-add_terms.field-0.0 c.from_residual-in_err-add_terms.result (NeedsRoom (added c.args.self.now c.args.other.now)) c.from_residual-in_err-add_terms.ensures.1
    (λ m.
    sum_wants c.args.self.now c.args.other.now c.self.inside.base c.base.result c.in_ok-base.base c.self.inside.terms c.terms.result.now (ap (λ (f : AffineForm). f.constant) c.self.view_is) c.base.ensures
    (ap (λ (f : AffineForm). f.terms) c.self.view_is) c.terms.ensures.terms c.in_ok-base.ensures.0 c.in_ok-base.ensures.1 (c.in_err-add_terms.ensures.in_place m))

pub invariant_of-self-2 : goal.invariant_of-self-2
invariant_of-self-2 c =
    sum_is_form c.in_ok-base.base (record { constant = c.self.inside.base; terms = c.self.inside.terms }) c.args.other.now c.self.inside.terms c.terms.result.now c.add_terms.new.terms refl c.terms.ensures.terms
    c.self.invariant c.terms.ensures.form c.in_ok-add_terms.ensures.answer

pub returns-clause-answer : goal.returns-clause-answer
returns-clause-answer c =
    sum_gives c.args.self.now c.args.other.now c.self.inside.base c.base.result c.in_ok-base.base c.self.inside.terms c.terms.result.now (ap (λ (f : AffineForm). f.constant) c.self.view_is) c.base.ensures
    (ap (λ (f : AffineForm). f.terms) c.self.view_is) c.terms.ensures.terms c.in_ok-base.ensures.0 c.in_ok-base.ensures.1 c.add_terms.new.terms c.in_ok-add_terms.ensures.answer

pub returns-in_err-add_terms-clause-few : goal.returns-in_err-add_terms-clause-few
returns-in_err-add_terms-clause-few c =
    part_wants c.in_err-add_terms.field-0.0 c.from_residual-in_err-add_terms.result (2 < length c.args.self.now.terms + length c.args.other.now.terms) c.from_residual-in_err-add_terms.ensures.1
    (λ m.
    let l : length c.self.inside.terms ≡ length c.args.self.now.terms = ap (λ (f : AffineForm). length f.terms) c.self.view_is in
    let r : length c.terms.result.now ≡ length c.args.other.now.terms = ap length c.terms.ensures.terms in
    let h : 2 < length c.self.inside.terms + length c.terms.result.now = c.in_err-add_terms.ensures.few m in
    omega arith)
