use Rattle.std.proofs.Common.{subst}
use Rattle.frac128.specs.Narrow.{IsNarrow}
use Rattle.tableau.proofs.Narrowness.{all_numbers_narrow}
use Rattle.tableau.proofs.numbers.row_is_narrow.Goals as goal

pub returns : goal.returns
returns c =
    all_numbers_narrow c.args.row.now c.kept-kept.result.now c.kept-kept.ensures (subst IsNarrow c.rest-rest.ensures c.num-num.ensures.narrow) c.all_narrow.ensures
