use Rattle.sheet_model.proofs.NumberTests.{is_zero-told}
use Rattle.form_ops.proofs.number_tests.is_zero.Goals as goal

pub returns : goal.returns
returns c = is_zero-told c.is_zero.result c.args.number c.is_zero.ensures
