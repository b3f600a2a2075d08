use Rattle.std.proofs.Common.{refl}
use Rattle.affine_forms.proofs.Multiples.{terms_decide, constants_decide}
use Rattle.affine_forms.proofs.form.Form.same.Goals as goal

pub returns-then-equal : goal.returns-then-equal
returns-then-equal c =
    terms_decide c.args.self.now c.args.other.now c.base.result c.base-2.result c.terms.result.now c.terms-then-equal.result.now c.base.ensures c.base-2.ensures c.terms.ensures.terms c.terms-then-equal.ensures.terms
    c.equal.result c.are_same.result c.equal.ensures c.if-equal.true c.are_same.ensures

pub returns-else-equal : goal.returns-else-equal
returns-else-equal c =
    constants_decide c.args.self.now c.args.other.now c.base.result c.base-2.result c.args.self.now.terms c.args.other.now.terms c.base.ensures c.base-2.ensures refl refl
    c.equal.result c.equal.ensures c.if-equal.false
