use Rattle.form_areas.proofs.Truth.{index_true}
use Rattle.form_areas.proofs.indexing.index_at.Goals as goal

pub returns-clause-right : goal.returns-clause-right
returns-clause-right c = index_true c.args.rows c.args.cols c.args.at.now c.part_at.result c.part_at.ensures.answer
