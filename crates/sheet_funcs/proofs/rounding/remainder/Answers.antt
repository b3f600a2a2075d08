use Rattle.std.proofs.Common.{sym, ◌∙◌}
use Rattle.sheet_model.proofs.NumberTests.{is_zero-told}
use Rattle.sheet_funcs.proofs.Remainders.{multiple_stops, quotient_stops, remainder-zero, remainder_answers}
use Rattle.sheet_funcs.proofs.rounding.remainder.Goals as goal

pub returns-then-is_zero-clause-answer : goal.returns-then-is_zero-clause-answer
returns-then-is_zero-clause-answer c = remainder-zero c.args.x c.args.y c.fault.result (sym (is_zero-told c.is_zero.result _ c.is_zero.ensures) ∙ c.if-is_zero.true) c.fault.ensures

pub returns-in_err-quotient-clause-answer : goal.returns-in_err-quotient-clause-answer
returns-in_err-quotient-clause-answer c =
    quotient_stops c.args.x c.args.y _ c.from_residual.result (sym (is_zero-told c.is_zero.result _ c.is_zero.ensures) ∙ c.if-is_zero.false) c.from_residual.ensures.1 c.in_err-quotient.ensures

pub returns-in_err-multiple-clause-answer : goal.returns-in_err-multiple-clause-answer
returns-in_err-multiple-clause-answer c =
    multiple_stops c.args.x c.args.y c.in_ok-quotient.quotient c.round_whole.result _ c.from_residual-in_err-multiple.result (sym (is_zero-told c.is_zero.result _ c.is_zero.ensures) ∙ c.if-is_zero.false)
    c.from_residual-in_err-multiple.ensures.1 c.in_ok-quotient.ensures c.round_whole.ensures c.in_err-multiple.ensures

pub returns-clause-answer : goal.returns-clause-answer
returns-clause-answer c =
    remainder_answers c.args.x c.args.y c.in_ok-quotient.quotient c.round_whole.result c.in_ok-multiple.multiple c.neg.result c.add.result c.number_answer.result
    (sym (is_zero-told c.is_zero.result _ c.is_zero.ensures) ∙ c.if-is_zero.false) c.in_ok-quotient.ensures c.round_whole.ensures c.in_ok-multiple.ensures c.neg.ensures c.add.ensures c.number_answer.ensures.answer
