use Rattle.std.proofs.Common.{arith}
use Rattle.lin_model.proofs.Signs.{is_one}
use Rattle.lin_model.proofs.standard.push_greatest.Goals as goal

pub row-requires-clause-rising : goal.row-requires-clause-rising
row-requires-clause-rising c = (omega arith, is_one _ c.one.ensures, tt)
