use Rattle.std.proofs.Common.{◌≡◌, ◌∙◌, ap, ◌<◌, ◌+◌, length, arith, ◌⊎◌, inl}
use Rattle.calculations.specs.Calculation.{done}
use Rattle.affine_forms.specs.Answers.{NeedsRoom}
use Rattle.affine_forms.specs.Forms.{AffineForm, negated}
use Rattle.affine_forms.specs.Steps.{subtracted}
use Rattle.affine_forms.proofs.Places.{at_stop}
use Rattle.affine_forms.proofs.Wholes.{turned_wants, few_more, negated_length}
use Rattle.affine_forms.proofs.form.Form.sub.Goals as goal

pub returns-in_err-turned-clause-in_place : goal.returns-in_err-turned-clause-in_place
returns-in_err-turned-clause-in_place c =
    at_stop c.from_residual.result (NeedsRoom (done (negated c.args.other.now)) ⊎ NeedsRoom (subtracted c.args.self.now c.args.other.now)) (inl (turned_wants c.args.other.now c.in_err-turned.ensures.in_place))

pub returns-in_err-turned-clause-few : goal.returns-in_err-turned-clause-few
returns-in_err-turned-clause-few c =
    at_stop c.from_residual.result (2 < length c.args.self.now.terms + length c.args.other.now.terms) (let l : 2 < length c.args.other.now.terms = c.in_err-turned.ensures.in_place in omega arith)

pub returns-clause-few : goal.returns-clause-few
returns-clause-few c =
    few_more c.add.result (length c.args.self.now.terms) (length c.in_ok-turned.turned.terms) (length c.args.other.now.terms)
    (let e : length c.in_ok-turned.turned.terms ≡ length c.args.other.now.terms = ap (λ (f : AffineForm). length f.terms) c.in_ok-turned.ensures.ok ∙ negated_length c.args.other.now.terms in omega arith)
    c.add.ensures.few
