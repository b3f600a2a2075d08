use Rattle.dictionaries.proofs.Reaching.{reached_on_the_way}
use Rattle.simplex.proofs.Answering.{unbounded_is}
use Rattle.simplex.proofs.answer.unbounded_answer.Goals as goal

pub returns : goal.returns
returns c =
    unbounded_is c.args.of.now c.args.dict.now c.args.col _ _ c.rows-regular.ensures.regular (reached_on_the_way c.args.of.now c.args.dict.now c.rows-regular.ensures.regular c.requires.reached) c.requires.end c.in_ok-at.ensures c.in_ok-way.ensures
