use Rattle.form_truth.proofs.CertainLookups.{certain_is_found, certain_is_found_across}
use Rattle.form_truth.proofs.CertainPicks.{certain_is_picked}
use Rattle.form_truth.proofs.Finding.{across_is_right, lookup_is_right}
use Rattle.form_truth.proofs.Matching.{found_is_right}
use Rattle.form_truth.proofs.Picking.{index_is_right}
use Rattle.form_truth.proofs.Rows.{match_is_right, countif_is_right}
use Rattle.form_truth.proofs.functions.searches_are_right.Goals as goal

pub returns : goal.returns
returns c = record { place = match_is_right; how_many = countif_is_right; found = found_is_right; picked = index_is_right; certain = certain_is_picked; down = lookup_is_right; across = across_is_right; certain_down = certain_is_found; certain_across = certain_is_found_across }
