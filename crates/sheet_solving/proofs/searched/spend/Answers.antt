use Rattle.std.proofs.Common.{refl}
use Rattle.branch_bound.proofs.Budgets.{few_units}
use Rattle.sheet_solving.proofs.Running.{rests}
use Rattle.sheet_solving.proofs.searched.spend.Goals as goal

pub returns-in-Some-clause-runs : goal.returns-in-Some-clause-runs
returns-in-Some-clause-runs g c = rests _ c.args.search.now c.args.allowed.units c.args.allowed.budget c.in-Some.answer (rw c.in-Some.is at c.requires.kept)

pub returns-in-Some-clause-few : goal.returns-in-Some-clause-few
returns-in-Some-clause-few g c b = few_units _ _ _ _ _ c.whole-valid.ensures.valid c.model.ensures refl c.units-trail.ensures.trail b
