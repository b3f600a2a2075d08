use Rattle.dictionaries.proofs.Reaching.{reached_on_the_way}
use Rattle.simplex.proofs.Nexts.{at_place}
use Rattle.simplex.proofs.choose.choose_next.Goals as goal

pub next_of-requires : goal.next_of-requires
next_of-requires c = (c.args.of.now, c.rows-regular.ensures.regular, c.requires)

pub returns-clause-place : goal.returns-clause-place
returns-clause-place c =
    at_place c.args.of.now c.args.dict.now c.next_of.result (reached_on_the_way c.args.of.now c.args.dict.now c.rows-regular.ensures.regular c.requires) c.next_of.ensures

pub returns-clause-on_the_way : goal.returns-clause-on_the_way
returns-clause-on_the_way c = reached_on_the_way c.args.of.now c.args.dict.now c.rows-regular.ensures.regular c.requires
