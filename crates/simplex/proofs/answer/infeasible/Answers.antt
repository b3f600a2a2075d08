use Rattle.dictionaries.proofs.Reaching.{reached_on_the_way}
use Rattle.simplex.proofs.Answering.{infeasible_is}
use Rattle.simplex.proofs.answer.infeasible.Goals as goal

pub returns : goal.returns
returns c =
    infeasible_is c.args.of.now c.args.dict.now _ _ c.rows-regular.ensures.regular (reached_on_the_way c.args.of.now c.args.dict.now c.rows-regular.ensures.regular c.requires.reached) c.requires.end c.auxiliary.ensures c.in_ok-contradicting.ensures
