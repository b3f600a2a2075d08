use Rattle.std.proofs.Common.{Err}
use Rattle.fractions.specs.Rational.{◌*ℚ◌}
use Rattle.frac128.proofs.NarrowLaws.{narrow_test}
use Rattle.affine_forms.proofs.Stepping.{is_wide, product-step, sum-step}
use Rattle.quick_solve.specs.Inner.{product_added}
use Rattle.quick_solve.proofs.TermByTerm.{product_then_sum, product_wide}
use Rattle.quick_solve.proofs.forms.add_product.Goals as goal

pub returns-in_err-product : goal.returns-in_err-product
returns-in_err-product c =
    is_wide (product_added c.args.total c.args.coefficient c.args.value) c.from_residual.result c.from_residual.ensures.0
    (product_wide c.args.total c.args.coefficient c.args.value (product-step c.args.coefficient c.args.value (Err c.in_err-product.field-0.0) c.in_err-product.ensures))

pub returns : goal.returns
returns c =
    product_then_sum c.args.total c.args.coefficient c.args.value c.in_ok-product.product c.add.result c.in_ok-product.ensures.0
    ((narrow_test (c.args.coefficient *ℚ c.args.value)).1 c.in_ok-product.ensures.1) (sum-step c.args.total c.in_ok-product.product c.add.result c.add.ensures)
