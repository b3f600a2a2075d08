use Rattle.sheet_quick.proofs.OpenModels.{quick_model_is_a_model, quick_model_is_linear, quick_model_is_the_sheet, quick_states_the_same}
use Rattle.sheet_quick.proofs.Staying.{open_once_given, open_once_written}
use Rattle.sheet_quick.proofs.laws.quick_laws.Goals as goal

pub returns : goal.returns
returns c = record {
  problem = quick_model_is_the_sheet;
  model = quick_model_is_a_model;
  stated = quick_states_the_same;
  linear = quick_model_is_linear;
  given = open_once_given;
  written = open_once_written;
}
