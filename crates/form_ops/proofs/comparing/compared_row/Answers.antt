use Rattle.std.proofs.Common.{refl}
use Rattle.form_ops.proofs.Answering.{compared_answers}
use Rattle.form_ops.proofs.comparing.compared_row.Goals as goal

pub returns-in_default : goal.returns-in_default
returns-in_default c =
    compared_answers c.args.op c.args.a.now c.args.b.now _ _ c.compared_sides.result c.in_default.not-Test-0 c.in_default.not-Test-1 refl refl c.compared_sides.ensures
