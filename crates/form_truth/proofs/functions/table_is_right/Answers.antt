use Rattle.form_truth.proofs.Table.{table_right}
use Rattle.form_truth.proofs.functions.table_is_right.Goals as goal

pub returns : goal.returns
returns c = table_right
