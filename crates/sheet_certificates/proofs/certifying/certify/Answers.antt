use Rattle.std.proofs.Common.{Ok, Err}
use Rattle.solver_names.specs.Answers.{statement_of}
use Rattle.sheet_solving.specs.Inner.{opened_of}
use Rattle.sheet_finding.proofs.FoundEnds.{is_fresh, of_model}
use Rattle.sheet_certificates.proofs.Certificates.{all_certified, all_said, all_stops_certified, all_stops_said}
use Rattle.sheet_certificates.proofs.certifying.certify.Goals as goal

pub run_whole-requires : goal.run_whole-requires
run_whole-requires g c = is_fresh c.args.of.model c.args.budget _ c.in_ok-search.ensures

pub returns-in-Ok-clause-certifies : goal.returns-in-Ok-clause-certifies
returns-in-Ok-clause-certifies g c =
    all_certified _ (statement_of c.args.of.statement) c.args.of.model c.certificate.result c.run_whole.new.search c.in-Ok.end
    (of_model _ c.args.of.model c.args.budget _ (opened_of c.run_whole.new.search) (Ok c.in-Ok.end) c.in_ok-search.ensures c.in-Ok.ensures.runs) c.certificate.ensures

pub returns-in-Ok-clause-said : goal.returns-in-Ok-clause-said
returns-in-Ok-clause-said g c =
    all_said (statement_of c.args.of.statement) c.args.of.model c.certificate.result c.run_whole.new.search c.in-Ok.end c.certificate.ensures

pub returns-clause-certifies : goal.returns-clause-certifies
returns-clause-certifies g c =
    all_stops_certified _ (statement_of c.args.of.statement) c.args.of.model c.tell_stop.result (opened_of c.run_whole.new.search) c.in-Err.stop
    (of_model _ c.args.of.model c.args.budget _ (opened_of c.run_whole.new.search) (Err c.in-Err.stop) c.in_ok-search.ensures c.in-Err.ensures.runs) c.tell_stop.ensures

pub returns-clause-said : goal.returns-clause-said
returns-clause-said g c =
    all_stops_said _ (statement_of c.args.of.statement) c.args.of.model c.tell_stop.result (opened_of c.run_whole.new.search) c.in-Err.stop
    (of_model _ c.args.of.model c.args.budget _ (opened_of c.run_whole.new.search) (Err c.in-Err.stop) c.in_ok-search.ensures c.in-Err.ensures.runs) c.tell_stop.ensures
