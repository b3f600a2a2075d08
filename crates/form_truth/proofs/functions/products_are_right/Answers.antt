use Rattle.form_truth.proofs.Rows.{sumproduct_is_right, mmult_is_right}
use Rattle.form_truth.proofs.functions.products_are_right.Goals as goal

pub returns : goal.returns
returns c = record { sum_of_products = sumproduct_is_right; matrix_product = mmult_is_right }
