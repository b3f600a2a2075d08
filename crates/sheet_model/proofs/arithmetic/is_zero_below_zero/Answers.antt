use Rattle.sheet_model.proofs.NumberTests.{is_zero-told, is_negative-told, both-told, first-false}
use Rattle.sheet_model.proofs.arithmetic.is_zero_below_zero.Goals as goal

pub returns-then-is_zero : goal.returns-then-is_zero
returns-then-is_zero c =
    both-told c.is_zero.result _ _ _ (is_zero-told _ _ c.is_zero.ensures) (is_negative-told _ _ c.is_negative.ensures) c.if-is_zero.true

pub returns-else-is_zero : goal.returns-else-is_zero
returns-else-is_zero c = first-false _ _ _ (is_zero-told _ _ c.is_zero.ensures) c.if-is_zero.false
