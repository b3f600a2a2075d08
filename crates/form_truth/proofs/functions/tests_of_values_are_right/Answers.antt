use Rattle.form_truth.proofs.Rows.{n_is_right, isnumber_is_right, isblank_is_right}
use Rattle.form_truth.proofs.functions.tests_of_values_are_right.Goals as goal

pub returns : goal.returns
returns c = record { number = n_is_right; is_number = isnumber_is_right; is_blank = isblank_is_right }
