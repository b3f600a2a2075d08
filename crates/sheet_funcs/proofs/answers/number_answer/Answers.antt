use Rattle.std.proofs.Common.{subst, Ok, Err}
use Rattle.sheet_model.specs.Answers.{Answers}
use Rattle.sheet_model.specs.declared.grid.Arg.TheVariants.{One}
use Rattle.sheet_model.specs.declared.value.Value.TheVariants.{Number}
use Rattle.sheet_model.proofs.Spreading.{turned_answers}
use Rattle.sheet_funcs.proofs.answers.number_answer.Goals as goal

pub returns-in-Ok-clause-answer : goal.returns-in-Ok-clause-answer
returns-in-Ok-clause-answer c d h = rw c.number.ensures (turned_answers (λ x. One (Number x)) d (Ok c.in-Ok.found) (subst (λ r. Answers d r) c.in-Ok.is h))

pub returns-in-Err-clause-answer : goal.returns-in-Err-clause-answer
returns-in-Err-clause-answer c d h = turned_answers (λ x. One (Number x)) d (Err c.in-Err.stop) (subst (λ r. Answers d r) c.in-Err.is h)
