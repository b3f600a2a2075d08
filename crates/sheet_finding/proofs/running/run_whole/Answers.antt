use Rattle.sheet_finding.proofs.FoundEnds.{answered, runs_to}
use Rattle.sheet_finding.proofs.running.run_whole.Goals as goal

pub returns-clause-runs : goal.returns-clause-runs
returns-clause-runs g c =
    runs_to _ c.args.budget _ c.args.search.now c.run-run.new.self c.requires c.run-run.ensures.trail c.run-run.result c.model.result.now c.model.ensures c.whole-valid.ensures.valid c.units-trail.ensures.trail
    c.run-run.ensures.ends

pub returns-clause-answered : goal.returns-clause-answered
returns-clause-answered g c = answered _ c.args.budget _ c.args.search.now c.run-run.new.self c.requires c.run-run.ensures.trail c.run-run.result c.run-run.ensures.ends
