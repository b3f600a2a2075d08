use Rattle.form_truth.proofs.Chosen.{certain_is_chosen, chosen_is_right}
use Rattle.form_truth.proofs.Rows.{choice_is_right, iferror_is_right}
use Rattle.form_truth.proofs.operators.choices_are_right.Goals as goal

pub returns : goal.returns
returns c = record { by_test = choice_is_right; by_error = iferror_is_right; by_place = chosen_is_right; certain = certain_is_chosen }
