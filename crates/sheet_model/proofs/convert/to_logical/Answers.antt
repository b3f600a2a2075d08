use Rattle.std.proofs.Common.{rules}
use Rattle.sheet_model.proofs.NumberTests.{is_zero-told}
use Rattle.sheet_model.proofs.convert.to_logical.Goals as goal

pub returns-in-Number : goal.returns-in-Number
returns-in-Number c = rw (is_zero-told c.is_zero.result _ c.is_zero.ensures) (search rules)
