use Rattle.std.proofs.Common.{◌<◌, ◌≤◌, ◌∙◌, List, ap, length, refl, rules, subst, ℕ}
use Rattle.std.proofs.lemmas.Option.{slice_get_within}
use Rattle.commands.specs.Commands.{Begin}
use Rattle.commands.specs.declared.answer.Answer.TheVariants as answer
use Rattle.kept_book.proofs.Follows.{is_none}
use Rattle.session.specs.States.{Session, other_searches}
use Rattle.session.specs.declared.open_searches.TheConstants.{MOST_SEARCHES}
use Rattle.session.proofs.Cuts.{begins_nowhere, begins_there, begins_too_many, placed_none, placed_some}
use Rattle.session.proofs.Following.{begin_needs, begin_none, few_steps, nothing_followed}
use Rattle.session.proofs.session.Session.begin.Goals as goal

pub returns-in_default-clause-follows : goal.returns-in_default-clause-follows
returns-in_default-clause-follows g c =
    let s = c.args.self.now.state in
    let place = placed_none c.find.result c.sheets.result.now s.book.sheets c.args.name.now c.find.ensures.place (c.sheets.ensures ∙ ap (λ (x : Session). x.state.book.sheets) c.self.view_is)
    (is_none c.find.result (λ x e. c.in_default.not-Some x e)) in
    nothing_followed c.args.self.now c.args.self.now (Begin c.args.name.now) answer.UnknownSheet (begin_none s c.args.name.now answer.UnknownSheet (begins_nowhere s c.args.name.now place)) refl refl refl

pub returns-then-count_others-ge-MOST_SEARCHES-clause-follows : goal.returns-then-count_others-ge-MOST_SEARCHES-clause-follows
returns-then-count_others-ge-MOST_SEARCHES-clause-follows g c =
    let s = c.args.self.now.state in
    let place = placed_some c.find.result c.sheets.result.now s.book.sheets c.args.name.now c.in-Some.sheet c.find.ensures.place (c.sheets.ensures ∙ ap (λ (x : Session). x.state.book.sheets) c.self.view_is) c.in-Some.is in
    let many : MOST_SEARCHES ≤ other_searches c.args.self.now.state c.in-Some.sheet.0 = search rules in
    nothing_followed c.args.self.now c.args.self.now (Begin c.args.name.now) answer.TooManySearches
    (begin_none s c.args.name.now answer.TooManySearches (begins_too_many s c.args.name.now c.in-Some.sheet.0 place many)) refl refl refl

pub begin_sheet-requires : goal.begin_sheet-requires
begin_sheet-requires g c =
    let sheets = c.sheets.ensures ∙ ap (λ (x : Session). x.state.book.sheets) c.self.view_is in
    record { listed = subst (λ (l : List (List ℕ)). c.in-Some.sheet.0 < length l) sheets (slice_get_within c.sheets.result.now c.in-Some.sheet.0 c.in-Some.ensures.found.own c.in-Some.ensures.found.there) }

pub returns-clause-few : goal.returns-clause-few
returns-clause-few g c =
    let s = c.args.self.now.state in
    let place = placed_some c.find.result c.sheets.result.now s.book.sheets c.args.name.now c.in-Some.sheet c.find.ensures.place (c.sheets.ensures ∙ ap (λ (x : Session). x.state.book.sheets) c.self.view_is) c.in-Some.is in
    let few : other_searches c.args.self.now.state c.in-Some.sheet.0 < MOST_SEARCHES = search rules in
    few_steps c.args.self.now (Begin c.args.name.now) c.in-Some.sheet.0 _ (begin_needs s c.args.name.now c.in-Some.sheet.0 (begins_there s c.args.name.now c.in-Some.sheet.0 place few)) c.begin_sheet.ensures.few
