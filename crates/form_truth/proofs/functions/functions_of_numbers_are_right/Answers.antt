use Rattle.form_truth.proofs.Rows.{abs_is_right, int_is_right, mod_is_right, round_is_right, power_is_right}
use Rattle.form_truth.proofs.functions.functions_of_numbers_are_right.Goals as goal

pub returns : goal.returns
returns c = record { magnitude = abs_is_right; rounded_down = int_is_right; remainder = mod_is_right; rounded = round_is_right; power = power_is_right }
