use Rattle.std.proofs.Common.{◌∙◌, ap}
use Rattle.affine_forms.specs.Forms.{AffineForm}
use Rattle.affine_forms.proofs.TermSteps.{rest_from}
use Rattle.quick_solve.proofs.TermByTerm.{left_is_form, one_more_left}
use Rattle.quick_solve.proofs.forms.decisions_left.Goals as goal

pub put_term-requires : goal.put_term-requires
put_term-requires c =
    left_is_form c.args.decisions _ c.args.terms.now c.loop-term.left.terms _ _ c.term-item.result c.requires.rise
    (rest_from c.args.terms.now c.loop-term.term-index c.term-item.result c.loop-term-test.true c.term-item.is) c.loop-term.invariant.terms

pub loop-term-preserved : goal.loop-term-preserved
loop-term-preserved c = record {
  constant = ap (λ (f : AffineForm). f.constant) c.in_ok-put_term.ensures ∙ c.loop-term.invariant.constant;
  terms =
      one_more_left c.args.decisions _ c.loop-term.left.terms _ _ _ c.term-item.result
      (rest_from c.args.terms.now c.loop-term.term-index c.term-item.result c.loop-term-test.true c.term-item.is)
      (ap (λ (f : AffineForm). f.terms) c.in_ok-put_term.ensures) c.loop-term.invariant.terms;
}
