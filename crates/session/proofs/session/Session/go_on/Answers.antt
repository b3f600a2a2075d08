use Rattle.std.proofs.Common.{ap, refl, subst, sym}
use Rattle.linear_models.specs.Model.{Model}
use Rattle.sheet_linear_model.specs.Answers.{prepared_of}
use Rattle.sheet_linear_model.specs.Prepared.{IsPrepared}
use Rattle.kept_tables.specs.FromSheetProblems.{ModelIsTheSheet}
use Rattle.solver_names.specs.Answers.{statement_of}
use Rattle.session.specs.States.{Session}
use Rattle.session.proofs.Cuts.{all_gone_on, found_at, put_at, taken_at}
use Rattle.session.proofs.Stopping.{under_way}
use Rattle.session.proofs.session.Session.go_on.Goals as goal

pub spend-requires-clause-prepared : goal.spend-requires-clause-prepared
spend-requires-clause-prepared g c =
    let taken = found_at _ c.args.self.now.state c.from-place.result c.args.sheet.0 c.take_search.result c.in-Some.search (ap (λ (x : Session). x.state) c.self.view_is) c.from-place.ensures c.take_search.ensures.search c.in-Some.is in
    (c.args.sheet.0, prepared_of c.args.of.now, subst (λ (x : Session). IsPrepared x.state.book c.args.sheet.0 (prepared_of c.args.of.now)) (sym c.self.view_is) c.requires.prepared, refl, sym (c.requires.same c.in-Some.search taken))

pub spend-requires-clause-model : goal.spend-requires-clause-model
spend-requires-clause-model g c =
    let taken = found_at _ c.args.self.now.state c.from-place.result c.args.sheet.0 c.take_search.result c.in-Some.search (ap (λ (x : Session). x.state) c.self.view_is) c.from-place.ensures c.take_search.ensures.search c.in-Some.is in
    subst (λ (m : Model). ModelIsTheSheet c.self.inside.book.book (statement_of c.args.of.now.statement) m) (sym (c.requires.same c.in-Some.search taken))
    (subst (λ (x : Session). ModelIsTheSheet x.state.book (statement_of c.args.of.now.statement) c.args.of.now.model) (sym c.self.view_is) c.requires.model)

pub returns-in-Ok-clause-step : goal.returns-in-Ok-clause-step
returns-in-Ok-clause-step g c =
    let taken = found_at _ c.args.self.now.state c.from-place.result c.args.sheet.0 c.take_search.result c.in-Some.search (ap (λ (x : Session). x.state) c.self.view_is) c.from-place.ensures c.take_search.ensures.search c.in-Some.is in
    all_gone_on _ c.args.self.now.state c.args.sheet.0 c.args.units (prepared_of c.args.of.now) c.in-Ok.answer c.in-Some.search c.spend.new.search _ c.spend.new.self.state _ taken
    (c.requires.same c.in-Some.search taken)
    (taken_at _ c.args.self.now.state c.take_search.new.searches.items c.from-place.result c.args.sheet.0 (ap (λ (x : Session). x.state) c.self.view_is) c.take_search.ensures.left c.from-place.ensures)
    c.in-Ok.ensures.step
    (put_at _ c.spend.new.self.state c.put_search.new.searches.items c.from-place.result c.args.sheet.0 c.search_after.result _ (ap (λ (x : Session). x.state) c.self-2.view_is) c.put_search.ensures c.from-place.ensures
    c.search_after.ensures)

pub returns-in-Err-clause-memory : goal.returns-in-Err-clause-memory
returns-in-Err-clause-memory g c =
    let taken = found_at _ c.args.self.now.state c.from-place.result c.args.sheet.0 c.take_search.result c.in-Some.search (ap (λ (x : Session). x.state) c.self.view_is) c.from-place.ensures c.take_search.ensures.search c.in-Some.is in
    under_way _ c.args.self.now.state c.args.sheet.0 c.args.units (prepared_of c.args.of.now) c.in-Some.search c.spend.new.search _ c.spend.new.self.state _ c.requires.prepared taken
    (c.requires.same c.in-Some.search taken)
    (taken_at _ c.args.self.now.state c.take_search.new.searches.items c.from-place.result c.args.sheet.0 (ap (λ (x : Session). x.state) c.self.view_is) c.take_search.ensures.left c.from-place.ensures)
    c.spend.ensures.further
    (put_at _ c.spend.new.self.state c.put_search-in-Err.new.searches.items c.from-place.result c.args.sheet.0 _ _ (ap (λ (x : Session). x.state) c.self-2.view_is) c.put_search-in-Err.ensures c.from-place.ensures refl)
    c.in-Err.ensures.memory
