use Rattle.std.proofs.Common.{◌≡◌, ◌∙◌, true, ap, refl, rules}
use Rattle.std.specs.Prelude.{is_some}
use Rattle.commands.specs.declared.answer.Answer.TheVariants as answer
use Rattle.session.specs.Cuts.{Stops, sheet_to_stop}
use Rattle.session.specs.States.{Session, open_search}
use Rattle.session.proofs.Cuts.{does, placed_some, some_of, stops_there}
use Rattle.session.proofs.session.Session.stop.Goals as goal

pub returns-clause-step : goal.returns-clause-step
returns-clause-step c =
    let s = c.args.self.now.state in
    let place = placed_some c.find.result c.sheets.result.now s.book.sheets c.args.name.now c.in-Some.sheet c.find.ensures.place (c.sheets.ensures ∙ ap (λ (x : Session). x.state.book.sheets) c.self.view_is) c.in-Some.is in
    let here : is_some (open_search c.args.self.now.state c.in-Some.sheet.0) ≡ true = search rules in
    let found = some_of (open_search s c.in-Some.sheet.0) here in
    does (Stops s) s (sheet_to_stop s c.args.name.now) c.in-Some.sheet.0 answer.Stopped _ (stops_there s c.args.name.now c.in-Some.sheet.0 found.0 place found.1) (refl, search rules)
