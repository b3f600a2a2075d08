use Rattle.sheet_problems.proofs.Fitting.{forms_fit}
use Rattle.sheet_problems.proofs.Modelled.{linear_model_is_the_sheet}
use Rattle.sheet_problems.proofs.Stating.{forms_state_the_problem}
use Rattle.sheet_problems.proofs.model_laws.Goals as goal

pub returns : goal.returns
returns c = record { stated = forms_state_the_problem; fit = forms_fit; model = linear_model_is_the_sheet }
