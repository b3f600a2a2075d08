use Rattle.std.proofs.lemmas.Result.{err_from_is_err_and}
use Rattle.frac128.specs.declared.fault.Wide.{Wide}
use Rattle.opt_certificate.proofs.AtLeaves.{best_answer}
use Rattle.opt_certificate.proofs.node.proves_best.Goals as goal

pub returns-in_err-is_best : goal.returns-in_err-is_best
returns-in_err-is_best c =
    let p = err_from_is_err_and c.from_residual-in_err-is_best.result c.from_residual-in_err-is_best.ensures.1 in
    rw (p.1, p.2) (rw c.in_ok-program.ensures.program at c.in_err-is_best.ensures)

pub returns : goal.returns
returns c = best_answer Wide _ _ c.args.multipliers.now c.args.most c.in_ok-is_best.field-0 c.in_ok-program.ensures.program c.in_ok-is_best.ensures
