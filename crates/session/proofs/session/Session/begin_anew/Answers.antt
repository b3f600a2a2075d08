use Rattle.std.proofs.Common.{ap, refl, subst, sym}
use Rattle.linear_models.specs.Model.{Model}
use Rattle.sheet_linear_model.specs.Answers.{prepared_of}
use Rattle.kept_tables.specs.FromSheetProblems.{ModelIsTheSheet}
use Rattle.kept_book.specs.FromSheetSolving.{Opened}
use Rattle.solver_names.specs.Answers.{statement_of}
use Rattle.session.proofs.Cuts.{all_begun}
use Rattle.session.proofs.Stopping.{begun_stopped}
use Rattle.session.proofs.session.Session.begin_anew.Goals as goal

pub put_anew-requires-clause-prepared : goal.put_anew-requires-clause-prepared
put_anew-requires-clause-prepared g c = (c.args.sheet.0, prepared_of c.args.of, c.requires.prepared, refl, sym (ap (λ (o : Opened). o.model) c.in_ok-search.ensures))

pub put_anew-requires-clause-model : goal.put_anew-requires-clause-model
put_anew-requires-clause-model g c =
    subst (λ (m : Model). ModelIsTheSheet c.args.self.now.state.book (statement_of c.args.of.statement) m) (sym (ap (λ (o : Opened). o.model) c.in_ok-search.ensures)) c.requires.model

pub returns-clause-step : goal.returns-clause-step
returns-clause-step g c = all_begun _ c.args.self.now.state c.args.sheet.0 c.args.units (prepared_of c.args.of) c.in_ok-search.search c.put_anew.result _ c.in_ok-search.ensures c.put_anew.ensures.step

pub returns-clause-memory : goal.returns-clause-memory
returns-clause-memory g c = begun_stopped _ c.args.self.now.state c.args.sheet.0 c.args.units (prepared_of c.args.of) c.in_ok-search.search _ c.put_anew.result c.in_ok-search.ensures c.put_anew.ensures.memory
