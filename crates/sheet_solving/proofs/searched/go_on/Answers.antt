use Rattle.sheet_solving.proofs.Budgets.{few_on, left_on}
use Rattle.sheet_solving.proofs.Running.{comes_on, stops_on}
use Rattle.sheet_solving.proofs.searched.go_on.Goals as goal

pub returns-in-Ok-clause-runs : goal.returns-in-Ok-clause-runs
returns-in-Ok-clause-runs g c =
    comes_on _ c.args.allowed.units c.args.allowed.budget _ c.args.search.now _ _ c.in-Ok.progress _ c.set_budget.ensures c.answer_in.ensures c.in-Ok.ensures.trail c.in-Ok.ensures.ends

pub returns-in-Err-clause-runs : goal.returns-in-Err-clause-runs
returns-in-Err-clause-runs g c =
    stops_on _ c.args.allowed.units c.args.allowed.budget _ c.args.search.now _ _ c.in-Err.stop _ c.set_budget.ensures c.model.ensures c.whole-valid.ensures.valid c.units-trail.ensures.trail c.in-Err.ensures.trail c.in-Err.ensures.ends

pub returns-in-Err-clause-enough : goal.returns-in-Err-clause-enough
returns-in-Err-clause-enough g c = left_on c.args.search.now _ c.args.allowed.budget c.in-Err.stop c.set_budget.ensures c.in-Err.ensures.enough

pub returns-in-Ok-clause-few : goal.returns-in-Ok-clause-few
returns-in-Ok-clause-few g c = few_on c.args.search.now _ c.args.allowed.budget _ c.set_budget.ensures c.in-Ok.ensures.few

pub returns-in-Err-clause-few : goal.returns-in-Err-clause-few
returns-in-Err-clause-few g c = few_on c.args.search.now _ c.args.allowed.budget _ c.set_budget.ensures c.in-Err.ensures.few
