use Rattle.std.proofs.Common.{subst, sym}
use Rattle.sheet_model.specs.Answers.{Answers}
use Rattle.sheet_model.proofs.Calculated.{answer-exact}
use Rattle.sheet_funcs.specs.Arguments.{grid_of}
use Rattle.sheet_funcs.specs.Products.{transposed}
use Rattle.sheet_funcs.specs.Lookups.{hlookup_of}
use Rattle.sheet_funcs.proofs.Looking.{first_three}
use Rattle.sheet_funcs.proofs.lookups.hlookup.Goals as goal

-- the answer for these arguments
answered : (c : goal.After-lookup) → Answers (hlookup_of c.args.args.now) c.lookup.result
answered c =
    subst (λ args. Answers (hlookup_of args) c.lookup.result)
    (sym (first_three c.args.args.now c.key-item.result c.table-item.result c.row-item.result c.requires.least c.key-item.is c.table-item.is c.row-item.is))
    (c.lookup.ensures (transposed (grid_of c.table-item.result)) c.across.ensures.records)

pub returns-clause-exact : goal.returns-clause-exact
returns-clause-exact c = answer-exact (hlookup_of c.args.args.now) c.lookup.result (answered c)

pub returns-clause-narrow : goal.returns-clause-narrow
returns-clause-narrow c = answered c
