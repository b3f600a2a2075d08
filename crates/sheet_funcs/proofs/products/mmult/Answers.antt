use Rattle.std.proofs.Common.{rules}
use Rattle.sheet_model.proofs.Calculated.{answer-exact}
use Rattle.sheet_funcs.specs.Arguments.{of_two}
use Rattle.sheet_funcs.specs.Products.{mmult_of}
use Rattle.sheet_funcs.proofs.products.mmult.Goals as goal

pub returns-clause-exact : goal.returns-clause-exact
returns-clause-exact c = answer-exact (of_two mmult_of c.args.args.now) c.product.result (search rules)
