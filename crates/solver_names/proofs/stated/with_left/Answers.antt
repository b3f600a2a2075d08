use Rattle.std.proofs.Common.{◌∙◌, sym}
use Rattle.solver_names.proofs.MarkedCells.{left_put}
use Rattle.solver_names.proofs.stated.with_left.Goals as goal

pub returns : goal.returns
returns c =
    left_put c.args.cells c.in_ok-more.more c.args.code c.args.constraint.now c.in-Says.left (sym c.in-Says.is) (sym c.is_code.ensures ∙ c.if-not-is_code.false) c.in_ok-more.ensures
