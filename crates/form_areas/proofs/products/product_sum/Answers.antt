use Rattle.std.proofs.Common.{sym, ap, ◌∙◌, ◌∷◌, take, drop, length, ◌-◌, map, Ok, Err}
use Rattle.form_values.specs.declared.abs.AbsArg.TheVariants.{One}
use Rattle.sheet_funcs.specs.Arguments.{below}
use Rattle.form_table.specs.Products.{dot, factors_at}
use Rattle.form_table.specs.Wanted.{grid_of}
use Rattle.form_areas.proofs.ProductSums.{first_others, grid_items, result_given, result_refused, sumproduct_answers}
use Rattle.form_areas.proofs.products.product_sum.Goals as goal

pub returns-in-Ok : goal.returns-in-Ok
returns-in-Ok c =
    let args = c.args.args.now in
    let others = take (length args - 1) (drop 1 args) in
    sumproduct_answers args c.first-item.result others (length c.elements.result.now) (Ok (One c.entry.result))
    (first_others args c.first-item.result c.in-len1-up.len_at_least ∙ ap (λ a. a ∷ others) (sym c.first-item.is))
    c.in_default-error_in_all.ensures (sym c.are_of_size.ensures ∙ c.if-not-are_of_size.false) (ap length (c.elements.ensures ∙ grid_items c.first-item.result))
    (rw c.entry.ensures (result_given (dot (map (factors_at (map grid_of args)) (below (length c.elements.result.now)))) c.in-Ok.total c.in-Ok.ensures))

pub returns-in-Err : goal.returns-in-Err
returns-in-Err c =
    let args = c.args.args.now in
    let others = take (length args - 1) (drop 1 args) in
    sumproduct_answers args c.first-item.result others (length c.elements.result.now) (Err c.in-Err.refusal)
    (first_others args c.first-item.result c.in-len1-up.len_at_least ∙ ap (λ a. a ∷ others) (sym c.first-item.is))
    c.in_default-error_in_all.ensures (sym c.are_of_size.ensures ∙ c.if-not-are_of_size.false) (ap length (c.elements.ensures ∙ grid_items c.first-item.result))
    (result_refused (dot (map (factors_at (map grid_of args)) (below (length c.elements.result.now)))) c.in-Err.refusal c.in-Err.ensures)
