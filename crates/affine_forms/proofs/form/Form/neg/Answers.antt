use Rattle.affine_forms.proofs.Wholes.{turned_is_form}
use Rattle.affine_forms.proofs.form.Form.neg.Goals as goal

pub invariant_of-result : goal.invariant_of-result
invariant_of-result c = turned_is_form c.neg.result c.args.self.now c.terms.result.now c.in_ok-terms.terms c.terms.ensures.terms c.terms.ensures.form c.in_ok-terms.ensures.turned
