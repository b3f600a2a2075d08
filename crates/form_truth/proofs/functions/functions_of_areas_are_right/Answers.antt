use Rattle.form_truth.proofs.CertainSums.{certain_is_summed}
use Rattle.form_truth.proofs.Chosen.{places_are_right}
use Rattle.form_truth.proofs.Rows.{columns_is_right, rows_is_right, summed_is_right, transpose_is_right}
use Rattle.form_truth.proofs.functions.functions_of_areas_are_right.Goals as goal

pub returns : goal.returns
returns c = record { transposed = transpose_is_right; rows = rows_is_right; columns = columns_is_right; met = places_are_right; certain = certain_is_summed; summed = summed_is_right }
