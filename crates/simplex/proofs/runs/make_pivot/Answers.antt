use Rattle.dictionaries.proofs.Runs.{next_is_place}
use Rattle.dictionaries.proofs.Reaching.{reached_further, reached_on_the_way}
use Rattle.simplex.proofs.runs.make_pivot.Goals as goal

pub pivot-requires : goal.pivot-requires
pivot-requires c =
    next_is_place c.args.of.now c.args.dict.now c.args.row c.args.col (reached_on_the_way c.args.of.now c.args.dict.now c.rows-regular.ensures.regular c.requires.reached) c.requires.next

pub returns-clause-reached : goal.returns-clause-reached
returns-clause-reached c =
    reached_further c.args.of.now c.args.dict.now _ c.args.row c.args.col c.requires.reached c.requires.next c.in_ok-pivot.ensures.1 c.in_ok-pivot.ensures.0
