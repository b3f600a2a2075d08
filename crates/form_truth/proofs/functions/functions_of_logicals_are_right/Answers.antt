use Rattle.form_truth.proofs.Rows.{and_is_right, false_is_right, not_is_right, or_is_right, true_is_right}
use Rattle.form_truth.proofs.functions.functions_of_logicals_are_right.Goals as goal

pub returns : goal.returns
returns c = record { all = and_is_right; some = or_is_right; reversed = not_is_right; always = true_is_right; never = false_is_right }
