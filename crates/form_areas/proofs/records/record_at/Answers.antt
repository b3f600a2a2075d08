use Rattle.form_areas.proofs.Truth.{across_true, down_true}
use Rattle.form_areas.proofs.records.record_at.Goals as goal

pub returns-clause-answer : goal.returns-clause-answer
returns-clause-answer c = rw (← c.operand_in.ensures, ← c.kind_in.ensures) c.record_by.ensures.answer

pub returns-clause-down : goal.returns-clause-down
returns-clause-down c = down_true c.args.fields c.args.keys.now c.args.key.now c.args.field.now c.args.sorted.now c.record_by.result (returns-clause-answer c)

pub returns-clause-across : goal.returns-clause-across
returns-clause-across c = across_true c.args.fields c.args.keys.now c.args.key.now c.args.field.now c.args.sorted.now c.record_by.result (returns-clause-answer c)
