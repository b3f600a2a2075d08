use Rattle.std.proofs.Common.{◌≡◌, ◌∙◌, Some, ap, sym, true≢false}
use Rattle.sheet_linear_model.specs.Answers.{prepared_of}
use Rattle.kept_book.specs.FromSheetSolving.{Opened}
use Rattle.session.specs.States.{Session, open_search}
use Rattle.session.proofs.Cuts.{asked_at, slices_on}
use Rattle.session.proofs.Said.{if_ok_map}
use Rattle.session.proofs.Stopping.{anew_under_way}
use Rattle.session.proofs.session.Session.slice_model.Goals as goal

pub returns-then-has_model-clause-step : goal.returns-then-has_model-clause-step
returns-then-has_model-clause-step g c =
    let s = c.args.self.now.state in
    let here = asked_at s c.deref.result.now c.from.result c.args.sheet.0 (c.deref.ensures.value ∙ ap (λ (x : Session). x.state.searches) c.self.view_is) c.from.ensures in
    let same : (search : Opened) → open_search s c.args.sheet.0 ≡ Some search → search.model ≡ c.args.of.model = λ search is. (c.has_model.ensures search (here ∙ is)).0 c.if-has_model.true in
    if_ok_map c.go_on.result _ _ (λ a h. slices_on _ s c.args.sheet.0 c.args.units (prepared_of c.args.of) a _ same h) c.go_on.ensures.step

pub returns-else-has_model-clause-memory : goal.returns-else-has_model-clause-memory
returns-else-has_model-clause-memory g c =
    let s = c.args.self.now.state in
    let here = asked_at s c.deref.result.now c.from.result c.args.sheet.0 (c.deref.ensures.value ∙ ap (λ (x : Session). x.state.searches) c.self.view_is) c.from.ensures in
    let other : (search : Opened) → open_search s c.args.sheet.0 ≡ Some search → ¬ (search.model ≡ c.args.of.model) =
    λ search is e. true≢false (sym ((c.has_model.ensures search (here ∙ is)).1 e) ∙ c.if-has_model.false) in
    anew_under_way _ s c.args.sheet.0 c.args.units (prepared_of c.args.of) _ c.begin_anew.result c.requires.prepared other c.begin_anew.ensures.memory
