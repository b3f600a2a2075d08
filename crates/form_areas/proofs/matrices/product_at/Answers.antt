use Rattle.std.proofs.Common.{arith, ◌∙◌, [], ◌∷◌, ℕ, List, Ok, Err}
use Rattle.affine_forms.specs.Forms.{AffineForm}
use Rattle.form_values.specs.Grids.{Raster}
use Rattle.form_table.specs.Products.{at, factor, product_at}
use Rattle.form_table.specs.Wanted.{grid_of}
use Rattle.form_areas.proofs.Dots.{dot_goes, dot_product_stops, dot_sum_stops, pair_answers}
use Rattle.form_areas.proofs.matrices.product_at.Goals as goal

-- the factors in one place
abbrev factors : Raster → Raster → ℕ → ℕ → ℕ → List AffineForm
factors g h row column k = factor (at g row k) ∷ factor (at h k column) ∷ []

pub returns-in_err-product : goal.returns-in_err-product
returns-in_err-product c =
    let g = grid_of c.args.left.now in
    let h = grid_of c.args.right.now in
    dot_product_stops (factors g h c.args.row c.args.column) (product_at g h (c.args.row, c.args.column)) c.loop-inner.total c.loop-inner.inner g.columns _ c.from_residual.result
    (omega (arith, c.columns_of-inner-end.ensures, c.loop-inner-test.true)) c.loop-inner.invariant c.from_residual.ensures.1
    (pair_answers c.get.result.now c.get-in-loop-inner.result.now _ _ (Err _) (c.get.ensures ∙ c.form.ensures ∙ c.factor_of-first.ensures) (c.get-in-loop-inner.ensures ∙ c.form-in-loop-inner.ensures ∙ c.factor_of-second.ensures) c.in_err-product.ensures)

pub returns-in_err-add_form : goal.returns-in_err-add_form
returns-in_err-add_form c =
    let g = grid_of c.args.left.now in
    let h = grid_of c.args.right.now in
    dot_sum_stops (factors g h c.args.row c.args.column) (product_at g h (c.args.row, c.args.column)) c.loop-inner.total c.loop-inner.inner g.columns c.in_ok-product.product _ c.from_residual-in_err-add_form.result
    (omega (arith, c.columns_of-inner-end.ensures, c.loop-inner-test.true)) c.loop-inner.invariant c.from_residual-in_err-add_form.ensures.1
    (pair_answers c.get.result.now c.get-in-loop-inner.result.now _ _ (Ok c.in_ok-product.product) (c.get.ensures ∙ c.form.ensures ∙ c.factor_of-first.ensures) (c.get-in-loop-inner.ensures ∙ c.form-in-loop-inner.ensures ∙ c.factor_of-second.ensures) c.in_ok-product.ensures)
    c.in_err-add_form.ensures

pub loop-inner-preserved : goal.loop-inner-preserved
loop-inner-preserved c =
    let g = grid_of c.args.left.now in
    let h = grid_of c.args.right.now in
    dot_goes (factors g h c.args.row c.args.column) _ c.loop-inner.total c.loop-inner.inner g.columns c.in_ok-product.product _
    (omega (arith, c.columns_of-inner-end.ensures, c.loop-inner-test.true)) c.loop-inner.invariant
    (pair_answers c.get.result.now c.get-in-loop-inner.result.now _ _ (Ok c.in_ok-product.product) (c.get.ensures ∙ c.form.ensures ∙ c.factor_of-first.ensures) (c.get-in-loop-inner.ensures ∙ c.form-in-loop-inner.ensures ∙ c.factor_of-second.ensures) c.in_ok-product.ensures)
    c.in_ok-add_form.ensures
