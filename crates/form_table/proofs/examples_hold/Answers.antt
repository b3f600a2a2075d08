use Rattle.form_table.proofs.ByExample.{certain_hold, choices_hold, choose_hold, functions_hold, index_errors_hold, no_choices_hold, operators_hold, picks_hold, record_errors_hold, records_hold}
use Rattle.form_table.proofs.examples_hold.Goals as goal

pub returns : goal.returns
returns c = record {
  operators = operators_hold;
  choices = choices_hold;
  functions = functions_hold;
  picks = picks_hold;
  records = records_hold;
  choose = choose_hold;
  certain = certain_hold;
  no_choices = no_choices_hold;
  index_errors = index_errors_hold;
  record_errors = record_errors_hold;
}
