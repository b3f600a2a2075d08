use Rattle.form_truth.proofs.Rows.{sum_is_right, average_is_right, count_is_right, min_is_right, max_is_right}
use Rattle.form_truth.proofs.functions.functions_of_items_are_right.Goals as goal

pub returns : goal.returns
returns c = record { sum = sum_is_right; average = average_is_right; count = count_is_right; least = min_is_right; greatest = max_is_right }
