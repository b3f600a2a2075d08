use Rattle.std.proofs.Common.{sym, ap, ◌∙◌, ◌∷◌, take, drop, length, ◌-◌, map}
use Rattle.sheet_model.proofs.Calculated.{answer-exact}
use Rattle.sheet_funcs.specs.Arguments.{below, grid_of}
use Rattle.sheet_funcs.specs.Products.{dot, factors_at, sumproduct_of}
use Rattle.sheet_funcs.proofs.GridProducts.{first_others, sumproduct_answers}
use Rattle.sheet_funcs.proofs.products.sumproduct.Goals as goal

pub returns-clause-narrow : goal.returns-clause-narrow
returns-clause-narrow c =
    let args = c.args.args.now in
    let others = take (length args - 1) (drop 1 args) in
    sumproduct_answers args c.first-item.result others (length c.elements_of.result.now) c.number_answer.result
    (first_others args c.first-item.result c.in-len1-up.len_at_least ∙ ap (λ a. a ∷ others) (sym c.first-item.is))
    c.in_default-first_error_in.ensures (sym c.are_of_size.ensures ∙ c.if-not-are_of_size.false) (ap length c.elements_of.ensures)
    (c.number_answer.ensures.answer (dot (map (factors_at (map grid_of args)) (below (length c.elements_of.result.now)))) c.dot.ensures.answer)

pub returns-clause-exact : goal.returns-clause-exact
returns-clause-exact c = answer-exact (sumproduct_of c.args.args.now) c.number_answer.result (returns-clause-narrow c)
