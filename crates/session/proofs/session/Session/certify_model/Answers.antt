use Rattle.std.proofs.Common.{subst, sym}
use Rattle.kept_tables.specs.FromSheetProblems.{ModelIsTheSheet}
use Rattle.sheet_linear_model.specs.Answers.{prepared_of}
use Rattle.sheet_linear_model.specs.Prepared.{IsPrepared}
use Rattle.solver_names.specs.Answers.{statement_of}
use Rattle.session.specs.States.{Session, SessionState}
use Rattle.session.proofs.Certified.{all_certified}
use Rattle.sheet_solving.proofs.Ends.{decisions_are}
use Rattle.session.proofs.Said.{if_ok_map}
use Rattle.session.proofs.session.Session.certify_model.Goals as goal

pub returns-clause-step : goal.returns-clause-step
returns-clause-step g c =
    let state : SessionState = record {
      book = c.self.inside.book.book;
      changed = record { sheets = c.self.inside.changed_sheets.items; names = c.self.inside.changed_names };
      budget = c.self.inside.budget;
      searches = c.self.inside.searches.items;
    } in
    rw (← c.self.view_is) (
    all_certified _ state c.args.sheet.0 (prepared_of c.args.of) c.certify.result
    (subst (λ (s : Session). IsPrepared s.state.book c.args.sheet.0 (prepared_of c.args.of)) (sym c.self.view_is) c.requires.prepared)
    (subst (λ (s : Session). ModelIsTheSheet s.state.book (statement_of c.args.of.statement) c.args.of.model) (sym c.self.view_is) c.requires.model)
    c.certify.ensures.certifies
    )

pub returns-clause-said : goal.returns-clause-said
returns-clause-said g c =
    if_ok_map c.certify.result _ _ (λ a h. h c.args.self.now.state.book c.requires.whole (decisions_are c.args.self.now.state.book c.args.sheet.0 (prepared_of c.args.of) c.requires.prepared)) c.certify.ensures.said
