use Rattle.std.proofs.Common.{sym, ◌∙◌}
use Rattle.sheet_model.proofs.NumberTests.{is_zero-told}
use Rattle.sheet_model.proofs.Calculated.{divided-zero, divided-told}
use Rattle.sheet_model.proofs.arithmetic.quotient.Goals as goal

pub returns-then-is_zero : goal.returns-then-is_zero
returns-then-is_zero c = divided-zero c.args.x c.args.y (sym (is_zero-told c.is_zero.result _ c.is_zero.ensures) ∙ c.if-is_zero.true)

pub returns : goal.returns
returns c =
    rw c.number.ensures (divided-told c.args.x c.args.y c.div.result (sym (is_zero-told c.is_zero.result _ c.is_zero.ensures) ∙ c.if-is_zero.false) c.div.ensures)
