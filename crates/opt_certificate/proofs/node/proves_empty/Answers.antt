use Rattle.std.proofs.lemmas.Result.{err_from_is_err_and}
use Rattle.frac128.specs.declared.fault.Wide.{Wide}
use Rattle.opt_certificate.proofs.AtLeaves.{empty_answer}
use Rattle.opt_certificate.proofs.node.proves_empty.Goals as goal

pub returns-in_err-is_contradictory : goal.returns-in_err-is_contradictory
returns-in_err-is_contradictory c =
    let p = err_from_is_err_and c.from_residual-in_err-is_contradictory.result c.from_residual-in_err-is_contradictory.ensures.1 in
    rw (p.1, p.2) (rw c.in_ok-program.ensures.program at c.in_err-is_contradictory.ensures)

pub returns : goal.returns
returns c = empty_answer Wide _ _ c.args.multipliers.now c.in_ok-is_contradictory.field-0 c.in_ok-program.ensures.program c.in_ok-is_contradictory.ensures
