use Rattle.sheet_problems.proofs.Numbers.{decision_is_its_number, depends_on_decisions, equal_numbers}
use Rattle.sheet_problems.proofs.worth_laws.Goals as goal

pub returns : goal.returns
returns c = record { equal = equal_numbers; depends = depends_on_decisions; decision = decision_is_its_number }
