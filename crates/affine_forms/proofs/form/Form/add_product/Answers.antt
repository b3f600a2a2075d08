use Rattle.std.proofs.Common.{◌<◌, ◌+◌, length, arith, ◌⊎◌, inr}
use Rattle.affine_forms.specs.Answers.{NeedsRoom}
use Rattle.affine_forms.specs.Steps.{added, scaled, added_product}
use Rattle.affine_forms.proofs.Wholes.{part_stops_at, product_stops, product_added, product_wants, wants_more, part_wants, few_more, product_shorter}
use Rattle.affine_forms.proofs.form.Form.add_product.Goals as goal

pub returns-in_err-product-clause-answer : goal.returns-in_err-product-clause-answer
returns-in_err-product-clause-answer c =
    part_stops_at (scaled c.args.k c.args.other.now) (added_product c.args.self.now c.args.k c.args.other.now) c.in_err-product.field-0.0 c.from_residual.result _ c.from_residual.ensures.1
    c.in_err-product.ensures.answer (product_stops c.args.self.now c.args.other.now c.args.k)

pub returns-clause-answer : goal.returns-clause-answer
returns-clause-answer c = product_added c.args.self.now c.args.other.now c.in_ok-product.product c.args.k c.in_ok-product.ensures.answer _ c.add_to.ensures.answer

pub returns-clause-in_place : goal.returns-clause-in_place
returns-clause-in_place c =
    wants_more c.add_to.result (NeedsRoom (added c.args.self.now c.in_ok-product.product)) (NeedsRoom (scaled c.args.k c.args.other.now) ⊎ NeedsRoom (added_product c.args.self.now c.args.k c.args.other.now))
    (λ room. inr (product_wants c.args.self.now c.args.other.now c.in_ok-product.product c.args.k c.in_ok-product.ensures.answer room)) c.add_to.ensures.in_place

pub returns-in_err-product-clause-few : goal.returns-in_err-product-clause-few
returns-in_err-product-clause-few c =
    part_wants c.in_err-product.field-0.0 c.from_residual.result (2 < length c.args.self.now.terms + length c.args.other.now.terms) c.from_residual.ensures.1
    (λ m. let l : 2 < length c.args.other.now.terms = c.in_err-product.ensures.few m in omega arith)

pub returns-clause-few : goal.returns-clause-few
returns-clause-few c =
    few_more c.add_to.result (length c.args.self.now.terms) (length c.in_ok-product.product.terms) (length c.args.other.now.terms)
    (product_shorter c.args.k c.args.other.now c.in_ok-product.product c.in_ok-product.ensures.answer) c.add_to.ensures.few
