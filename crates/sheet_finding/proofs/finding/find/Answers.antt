use Rattle.solver_names.specs.Answers.{statement_of}
use Rattle.sheet_solving.specs.Inner.{opened_of}
use Rattle.sheet_finding.proofs.FoundEnds.{all_found, all_said, ended, is_fresh, of_model}
use Rattle.sheet_finding.proofs.finding.find.Goals as goal

pub run_whole-run-requires : goal.run_whole-run-requires
run_whole-run-requires g c = is_fresh c.args.model c.args.budget _ c.in_ok-search.ensures

pub told_of-requires : goal.told_of-requires
told_of-requires g c = ended _ c.args.budget _ (opened_of c.run_whole-run.new.search) c.run_whole-run.result c.run_whole-run.ensures.runs

pub returns-clause-finds : goal.returns-clause-finds
returns-clause-finds g c =
    all_found _ (statement_of c.args.statement.now) c.args.model (opened_of c.run_whole-run.new.search) c.run_whole-run.result c.told_of.result
    (of_model _ c.args.model c.args.budget _ (opened_of c.run_whole-run.new.search) c.run_whole-run.result c.in_ok-search.ensures c.run_whole-run.ensures.runs) c.told_of.ensures

pub returns-clause-said : goal.returns-clause-said
returns-clause-said g c =
    all_said _ (statement_of c.args.statement.now) c.args.model (opened_of c.run_whole-run.new.search) c.run_whole-run.result c.told_of.result
    (of_model _ c.args.model c.args.budget _ (opened_of c.run_whole-run.new.search) c.run_whole-run.result c.in_ok-search.ensures c.run_whole-run.ensures.runs) c.told_of.ensures
