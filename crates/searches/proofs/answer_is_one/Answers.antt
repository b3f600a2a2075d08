use Rattle.searches.proofs.Answering.{one_answer}
use Rattle.searches.proofs.answer_is_one.Goals as goal

pub returns : goal.returns
returns c = one_answer
