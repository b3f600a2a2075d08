use Rattle.form_areas.proofs.Truth.{lookup_true}
use Rattle.form_areas.proofs.lookups.lookup_at.Goals as goal

pub returns-clause-right : goal.returns-clause-right
returns-clause-right c = lookup_true c.args.key.now c.args.keys.now c.args.kind.now c.looked_up.result c.looked_up.ensures.answer
