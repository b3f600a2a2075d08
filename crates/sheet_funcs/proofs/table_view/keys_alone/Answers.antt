use Rattle.sheet_funcs.proofs.Spaced.{spaced_one}
use Rattle.sheet_funcs.proofs.table_view.keys_alone.Goals as goal

pub returns-clause-keys : goal.returns-clause-keys
returns-clause-keys c = spaced_one c.args.keys.now
