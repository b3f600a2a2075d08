use Rattle.std.proofs.Common.{ap}
use Rattle.solver_names.specs.Answers.{statement_of}
use Rattle.session.specs.States.{Session}
use Rattle.session.proofs.Cuts.{all_begun_anew, put_at}
use Rattle.session.proofs.Stopping.{anew_stopped}
use Rattle.session.proofs.session.Session.put_anew.Goals as goal

pub returns-in-Ok-clause-step : goal.returns-in-Ok-clause-step
returns-in-Ok-clause-step g c =
    all_begun_anew _ c.args.self.now.state c.args.sheet.0 c.args.units (statement_of c.args.statement.now) c.in-Ok.answer c.args.search c.spend.new.search c.spend.new.self.state _ c.in-Ok.ensures.step
    (put_at _ c.spend.new.self.state c.put_search.new.searches.items c.from.result c.args.sheet.0 c.search_after-left.result _ (ap (λ (x : Session). x.state) c.self.view_is) c.put_search.ensures c.from.ensures c.search_after-left.ensures)

pub returns-in-Err-clause-memory : goal.returns-in-Err-clause-memory
returns-in-Err-clause-memory g c =
    anew_stopped _ c.args.self.now.state c.args.sheet.0 c.args.units (statement_of c.args.statement.now) c.args.search c.spend.new.search c.spend.new.self.state c.in-Err.ensures.memory
