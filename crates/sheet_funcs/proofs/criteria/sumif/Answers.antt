use Rattle.std.proofs.Common.{rules}
use Rattle.sheet_model.proofs.Calculated.{answer-exact}
use Rattle.sheet_funcs.specs.Criteria.{sumif_of}
use Rattle.sheet_funcs.proofs.criteria.sumif.Goals as goal

pub returns-in-len2-clause-exact : goal.returns-in-len2-clause-exact
returns-in-len2-clause-exact c = answer-exact (sumif_of c.args.args.now) c.sum_by.result (search rules)

pub returns-in-len3-clause-exact : goal.returns-in-len3-clause-exact
returns-in-len3-clause-exact c = answer-exact (sumif_of c.args.args.now) c.sum_by-in-len3.result (search rules)
