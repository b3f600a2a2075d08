use Rattle.affine_forms.specs.Steps.{added, subtracted}
use Rattle.form_values.specs.Entries.{entry}
use Rattle.form_ops.proofs.Answering.{form_answers}
use Rattle.form_ops.proofs.pairing.pair_result.Goals as goal

pub returns-in-Sum-clause-answer : goal.returns-in-Sum-clause-answer
returns-in-Sum-clause-answer c = rw (c.in-Sum.is, c.as_entry.ensures) (form_answers entry (added c.args.first.now c.args.second.now) c.add.result c.add.ensures.answer)

pub returns-in-Difference-clause-answer : goal.returns-in-Difference-clause-answer
returns-in-Difference-clause-answer c =
    rw (c.in-Difference.is, c.as_entry-in-Difference.ensures) (form_answers entry (subtracted c.args.first.now c.args.second.now) c.sub.result c.sub.ensures.answer)

pub returns-in-Rounding-clause-answer : goal.returns-in-Rounding-clause-answer
returns-in-Rounding-clause-answer c = rw c.in-Rounding.is (c.rounding.ensures.answer c.args.second.now)
