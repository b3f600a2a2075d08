use Rattle.std.proofs.Common.{◌∙◌, ap, refl}
use Rattle.commands.specs.Commands.{Cert}
use Rattle.commands.specs.declared.answer.Answer.TheVariants as answer
use Rattle.session.specs.States.{Session}
use Rattle.session.proofs.Cuts.{placed_none, placed_some}
use Rattle.session.proofs.Following.{few_steps, named_none, nothing_followed, solve_needs}
use Rattle.session.proofs.session.Session.certify.Goals as goal

pub returns-in-Some-clause-few : goal.returns-in-Some-clause-few
returns-in-Some-clause-few g c =
    let s = c.args.self.now.state in
    let place = placed_some c.find.result c.sheets.result.now s.book.sheets c.args.name.now c.in-Some.sheet c.find.ensures.place (c.sheets.ensures ∙ ap (λ (x : Session). x.state.book.sheets) c.self.view_is) c.in-Some.is in
    few_steps c.args.self.now (Cert c.args.name.now) c.in-Some.sheet.0 _ (solve_needs s c.args.name.now c.in-Some.sheet.0 place) c.certify_sheet.ensures.few

pub returns-in-None-clause-follows : goal.returns-in-None-clause-follows
returns-in-None-clause-follows g c =
    let s = c.args.self.now.state in
    let place = placed_none c.find.result c.sheets.result.now s.book.sheets c.args.name.now c.find.ensures.place (c.sheets.ensures ∙ ap (λ (x : Session). x.state.book.sheets) c.self.view_is) c.in-None.is in
    nothing_followed c.args.self.now c.args.self.now (Cert c.args.name.now) answer.UnknownSheet (named_none s c.args.name.now place) refl refl refl
