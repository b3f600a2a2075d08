use Rattle.affine_forms.specs.Assigned.{assigned}
use Rattle.parameter_laws.specs.Putting.{put_in}
use Rattle.quick_solve.proofs.TermByTerm.{puts_give, puts_stop, stopped}
use Rattle.quick_solve.proofs.forms.put_in.Goals as goal

pub returns-in_err-constant : goal.returns-in_err-constant
returns-in_err-constant c =
    stopped (put_in c.args.decisions (assigned c.args.values.now) c.args.form.now) c.from_residual.result c.from_residual.ensures.1
    (puts_stop c.args.decisions (assigned c.args.values.now) c.args.form.now c.base.result c.terms.result.now c.base.ensures c.terms.ensures.terms c.in_err-constant.ensures)

pub returns : goal.returns
returns c =
    puts_give c.args.decisions (assigned c.args.values.now) c.args.form.now c.base.result c.terms.result.now c.base.ensures c.terms.ensures.terms c.in_ok-constant.constant
    c.terms-2.result.now c.in_ok-decisions_left.field-0 c.in_ok-constant.ensures c.terms-2.ensures.terms c.in_ok-decisions_left.ensures
