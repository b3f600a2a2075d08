use Rattle.std.proofs.Common.{arith, [], ◌∷◌, ℕ, List, Ok, Err}
use Rattle.fractions.specs.Rational.{ℚ}
use Rattle.sheet_model.specs.Grids.{Rectangle}
use Rattle.sheet_funcs.specs.Arguments.{at, grid_of}
use Rattle.sheet_funcs.specs.Products.{factor, product_at}
use Rattle.sheet_funcs.proofs.Dots.{dot_goes, dot_product_stops, dot_sum_stops, pair_answers}
use Rattle.sheet_funcs.proofs.products.product_at.Goals as goal

-- the factors in one place
abbrev factors : Rectangle → Rectangle → ℕ → ℕ → ℕ → List ℚ
factors g h row column k = factor (at g row k) ∷ factor (at h k column) ∷ []

pub returns-in_err-multiply : goal.returns-in_err-multiply
returns-in_err-multiply c =
    let g = grid_of c.args.left.now in
    let h = grid_of c.args.right.now in
    dot_product_stops (factors g h c.args.row c.args.column) (product_at g h (c.args.row, c.args.column)) c.loop-inner.total c.loop-inner.inner g.columns _ c.from_residual.result
    (omega (arith, c.columns_of-inner-end.ensures, c.loop-inner-test.true)) c.loop-inner.invariant c.from_residual.ensures.1
    (pair_answers c.factor_of-factor.result c.factor_of.result _ _ (Err _) c.factor_of-factor.ensures c.factor_of.ensures c.in_err-multiply.ensures)

pub returns-in_err-total : goal.returns-in_err-total
returns-in_err-total c =
    let g = grid_of c.args.left.now in
    let h = grid_of c.args.right.now in
    dot_sum_stops (factors g h c.args.row c.args.column) (product_at g h (c.args.row, c.args.column)) c.loop-inner.total c.loop-inner.inner g.columns c.in_ok-multiply.field-0 _ c.from_residual-in_err-total.result
    (omega (arith, c.columns_of-inner-end.ensures, c.loop-inner-test.true)) c.loop-inner.invariant c.from_residual-in_err-total.ensures.1
    (pair_answers c.factor_of-factor.result c.factor_of.result _ _ (Ok c.in_ok-multiply.field-0) c.factor_of-factor.ensures c.factor_of.ensures c.in_ok-multiply.ensures) c.in_err-total.ensures

pub loop-inner-preserved : goal.loop-inner-preserved
loop-inner-preserved c =
    let g = grid_of c.args.left.now in
    let h = grid_of c.args.right.now in
    dot_goes (factors g h c.args.row c.args.column) _ c.loop-inner.total c.loop-inner.inner g.columns c.in_ok-multiply.field-0 c.in_ok-total.total
    (omega (arith, c.columns_of-inner-end.ensures, c.loop-inner-test.true)) c.loop-inner.invariant
    (pair_answers c.factor_of-factor.result c.factor_of.result _ _ (Ok c.in_ok-multiply.field-0) c.factor_of-factor.ensures c.factor_of.ensures c.in_ok-multiply.ensures) c.in_ok-total.ensures
