use Rattle.tableau.proofs.Runs.{part_is_run, part_left, part_put}
use Rattle.tableau.proofs.numbers.copy_before.Goals as goal

pub put_run-requires : goal.put_run-requires
put_run-requires c =
    part_is_run c.args.kept.now c.args.place c.end_before-next.result c.end_before-next.ensures.first c.end_before-next.ensures.within _ c.requires.rising c.requires.columns c.requires.other_than_zero

pub returns-clause-size : goal.returns-clause-size
returns-clause-size c = c.put_run.ensures.size

pub returns-clause-rest : goal.returns-clause-rest
returns-clause-rest c = c.put_run.ensures.rest

pub returns-clause-copied : goal.returns-clause-copied
returns-clause-copied c =
    part_put c.args.kept.now c.args.place c.end_before-next.result c.end_before-next.ensures.first c.end_before-next.ensures.within _ _ c.put_run.ensures

pub returns-clause-left : goal.returns-clause-left
returns-clause-left c =
    part_left c.args.kept.now c.args.place c.end_before-next.result c.end_before-next.ensures.first c.end_before-next.ensures.within _ _ c.put_run.ensures
