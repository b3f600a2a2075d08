use Rattle.std.proofs.Common.{refl, ap, length}
use Rattle.simplex.proofs.Answering.{multipliers_as}
use Rattle.simplex.proofs.read.row_multipliers.Goals as goal

pub returns : goal.returns
returns c =
    multipliers_as c.args.of.now c.args.dict.now.nonbasic c.args.row.now c.args.row.now _ _ _ c.in_ok-made.ensures refl
    (ap length c.objective.ensures.value) (ap length c.rows.ensures.value)
