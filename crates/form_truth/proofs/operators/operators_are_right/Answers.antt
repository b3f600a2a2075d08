use Rattle.form_truth.proofs.Rows.{infix_is_right, minus_is_right, percent_is_right}
use Rattle.form_truth.proofs.operators.operators_are_right.Goals as goal

pub returns : goal.returns
returns c = record { infix_operators = infix_is_right; minus = minus_is_right; percent = percent_is_right }
