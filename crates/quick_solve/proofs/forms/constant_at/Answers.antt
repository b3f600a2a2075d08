use Rattle.affine_forms.specs.Assigned.{assigned}
use Rattle.affine_forms.proofs.TermSteps.{rest_from}
use Rattle.quick_solve.proofs.TermByTerm.{term_given}
use Rattle.quick_solve.proofs.forms.constant_at.Goals as goal

pub with_term-requires : goal.with_term-requires
with_term-requires c =
    let d = rest_from c.args.terms.now c.loop-term.term-index c.term-item.result c.loop-term-test.true c.term-item.is in
    (rw d at c.loop-term.invariant.reach).0

pub loop-term-preserved : goal.loop-term-preserved
loop-term-preserved c =
    let d = rest_from c.args.terms.now c.loop-term.term-index c.term-item.result c.loop-term-test.true c.term-item.is in
    record {
      reach = (rw d at c.loop-term.invariant.reach).1;
      narrow = term_given c.args.decisions (assigned c.args.values.now) c.loop-term.constant c.term-item.result _ _ _ c.in_ok-constant.constant d c.in_ok-constant.ensures c.loop-term.invariant.narrow;
    }
