use Rattle.sensitivity.proofs.Ended.{best_value}
use Rattle.sensitivity.proofs.answer.run_to_prices.Goals as goal

pub answer_of-requires-clause-value : goal.answer_of-requires-clause-value
answer_of-requires-clause-value c = best_value c.args.program.now _ c.in-Ok.found c.rows-regular.ensures.regular c.resume.ensures.reached c.in-Ok.ensures.answer

pub returns-in-Ok-clause-answer : goal.returns-in-Ok-clause-answer
returns-in-Ok-clause-answer c = c.answer_of.ensures c.resume.new.work.left
