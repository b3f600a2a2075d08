use Rattle.std.proofs.Common.{refl, ap, ◌∷◌, []}
use Rattle.affine_forms.specs.Forms.{decision_form}
use Rattle.affine_forms.proofs.Multiples.{terms_decide, constants_decide}
use Rattle.affine_forms.proofs.form.Form.is_decision.Goals as goal

pub returns-then-equal : goal.returns-then-equal
returns-then-equal c =
    terms_decide c.args.self.now (decision_form c.args.j) c.base.result c.zero.result c.terms.result.now ((c.args.j, c.one.result) ∷ []) c.base.ensures c.zero.ensures c.terms.ensures.terms (ap (λ k. (c.args.j, k) ∷ []) c.one.ensures)
    c.equal.result c.are_same.result c.equal.ensures c.if-equal.true c.are_same.ensures

pub returns-else-equal : goal.returns-else-equal
returns-else-equal c =
    constants_decide c.args.self.now (decision_form c.args.j) c.base.result c.zero.result c.args.self.now.terms (decision_form c.args.j).terms c.base.ensures c.zero.ensures refl refl
    c.equal.result c.equal.ensures c.if-equal.false
