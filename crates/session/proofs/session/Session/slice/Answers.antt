use Rattle.std.proofs.Common.{◌≡◌, ◌∙◌, true, false, ap, refl, rules, sym}
use Rattle.std.specs.Prelude.{is_some}
use Rattle.std.proofs.lemmas.Result.{on_err_weaker}
use Rattle.session.specs.States.{Session, open_search}
use Rattle.commands.specs.Commands.{Slice}
use Rattle.commands.specs.declared.answer.Answer.TheVariants as answer
use Rattle.kept_book.proofs.Follows.{is_none}
use Rattle.session.proofs.Cuts.{cuts_badly, cuts_none, cuts_nowhere, cuts_there, interrupted, none_of, placed_none, placed_some, some_of}
use Rattle.session.proofs.Following.{cut_needs, cut_none, few_steps, nothing_followed}
use Rattle.session.proofs.session.Session.slice.Goals as goal

pub returns-clause-memory : goal.returns-clause-memory
returns-clause-memory g c =
    let s = c.args.self.now.state in
    let place = placed_some c.find.result c.sheets.result.now s.book.sheets c.args.name.now c.in-Some.sheet c.find.ensures.place (c.sheets.ensures ∙ ap (λ (x : Session). x.state.book.sheets) c.self.view_is) c.in-Some.is in
    let here : is_some (open_search c.args.self.now.state c.in-Some.sheet.0) ≡ true = search rules in
    let found = some_of (open_search s c.in-Some.sheet.0) here in
    on_err_weaker c.slice_sheet.result
    (λ h. interrupted _ s c.args.name.now c.args.units.now c.in-Some.sheet.0 c.in-Some-units_in.units found.0 _
    (cuts_there s c.args.name.now c.args.units.now c.in-Some.sheet.0 c.in-Some-units_in.units found.0 place (sym c.units_in.ensures.read ∙ c.in-Some-units_in.is) found.1) (h found.0 found.1))
    c.slice_sheet.ensures.memory

pub returns-in_default-clause-follows : goal.returns-in_default-clause-follows
returns-in_default-clause-follows g c =
    let s = c.args.self.now.state in
    let place = placed_none c.find.result c.sheets.result.now s.book.sheets c.args.name.now c.find.ensures.place (c.sheets.ensures ∙ ap (λ (x : Session). x.state.book.sheets) c.self.view_is)
    (is_none c.find.result (λ x e. c.in_default.not-Some x e)) in
    nothing_followed c.args.self.now c.args.self.now (Slice c.args.name.now c.args.units.now) answer.UnknownSheet
    (cut_none s c.args.name.now c.args.units.now answer.UnknownSheet (cuts_nowhere s c.args.name.now c.args.units.now place)) refl refl refl

pub returns-in_default-units_in-clause-follows : goal.returns-in_default-units_in-clause-follows
returns-in_default-units_in-clause-follows g c =
    let s = c.args.self.now.state in
    let place = placed_some c.find.result c.sheets.result.now s.book.sheets c.args.name.now c.in-Some.sheet c.find.ensures.place (c.sheets.ensures ∙ ap (λ (x : Session). x.state.book.sheets) c.self.view_is) c.in-Some.is in
    let bad = sym c.units_in.ensures.read ∙ is_none c.units_in.result (λ x e. c.in_default-units_in.not-Some x e) in
    nothing_followed c.args.self.now c.args.self.now (Slice c.args.name.now c.args.units.now) answer.BadNumber
    (cut_none s c.args.name.now c.args.units.now answer.BadNumber (cuts_badly s c.args.name.now c.args.units.now c.in-Some.sheet.0 place bad)) refl refl refl

pub returns-then-not-has_search-clause-follows : goal.returns-then-not-has_search-clause-follows
returns-then-not-has_search-clause-follows g c =
    let s = c.args.self.now.state in
    let place = placed_some c.find.result c.sheets.result.now s.book.sheets c.args.name.now c.in-Some.sheet c.find.ensures.place (c.sheets.ensures ∙ ap (λ (x : Session). x.state.book.sheets) c.self.view_is) c.in-Some.is in
    let closed : is_some (open_search c.args.self.now.state c.in-Some.sheet.0) ≡ false = search rules in
    nothing_followed c.args.self.now c.args.self.now (Slice c.args.name.now c.args.units.now) answer.NoSearch
    (cut_none s c.args.name.now c.args.units.now answer.NoSearch
    (cuts_none s c.args.name.now c.args.units.now c.in-Some.sheet.0 c.in-Some-units_in.units place (sym c.units_in.ensures.read ∙ c.in-Some-units_in.is) (none_of (open_search s c.in-Some.sheet.0) closed)))
    refl refl refl

pub returns-clause-few : goal.returns-clause-few
returns-clause-few g c =
    let s = c.args.self.now.state in
    let place = placed_some c.find.result c.sheets.result.now s.book.sheets c.args.name.now c.in-Some.sheet c.find.ensures.place (c.sheets.ensures ∙ ap (λ (x : Session). x.state.book.sheets) c.self.view_is) c.in-Some.is in
    let here : is_some (open_search c.args.self.now.state c.in-Some.sheet.0) ≡ true = search rules in
    let found = some_of (open_search s c.in-Some.sheet.0) here in
    let there = cuts_there s c.args.name.now c.args.units.now c.in-Some.sheet.0 c.in-Some-units_in.units found.0 place (sym c.units_in.ensures.read ∙ c.in-Some-units_in.is) found.1 in
    few_steps c.args.self.now (Slice c.args.name.now c.args.units.now) c.in-Some.sheet.0 _ (cut_needs s c.args.name.now c.args.units.now c.in-Some-units_in.units found.0 c.in-Some.sheet.0 there) c.slice_sheet.ensures.few
