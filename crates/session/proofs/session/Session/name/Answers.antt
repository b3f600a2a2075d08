use Rattle.std.proofs.Common.{Option, ap, refl, ℕ}
use Rattle.commands.specs.declared.answer.Answer.TheVariants as answer
use Rattle.kept_book.specs.Kept.{KeptState}
use Rattle.std.specs.Prelude.{option_map}
use Rattle.cell_refs.specs.declared.cell.SheetId.{SheetId}
use Rattle.workbook.specs.State.{State}
use Rattle.session.specs.States.{Session, SessionState, with_book, with_names_changed}
use Rattle.session.proofs.Changed.{at_err}
use Rattle.session.proofs.Editing.{name_refused, other_name}
use Rattle.session.proofs.Stopping.{name_stopped_at, name_there, named_home}
use Rattle.session.proofs.session.Session.name.Goals as goal

pub returns-in_default-clause-follows : goal.returns-in_default-clause-follows
returns-in_default-clause-follows c = other_name c.args.self.now c.args.self.now refl refl c.args.sheet.now c.args.name.now c.args.text.now answer.UnknownSheet tt

pub returns-in_err-kept-in-Ok-clause-memory : goal.returns-in_err-kept-in-Ok-clause-memory
returns-in_err-kept-in-Ok-clause-memory c =
    let before : SessionState = record {
      book = c.self.inside.book.book;
      changed = record { sheets = c.self.inside.changed_sheets.items; names = c.self.inside.changed_names };
      budget = c.self.inside.budget;
      searches = c.self.inside.searches.items;
    } in
    let home : Option ℕ = option_map (λ (s : SheetId). s.0) c.in-Some.home in
    let there = named_home c.sheets.result.now before.book.sheets c.args.sheet.now home c.in-Some.ensures.sheet c.sheets.ensures in
    rw (← c.self.view_is) (
    at_err c.from_residual.result _
    (name_stopped_at before _ c.args.sheet.now c.args.name.now c.args.text.now home (name_there before.book c.args.sheet.now c.args.name.now c.args.text.now home there c.in-Ok.ensures.1)
    (ap (λ (b : State). with_names_changed (with_book before b)) c.in-Ok.ensures.2))
    )

pub returns-in-Err-clause-follows : goal.returns-in-Err-clause-follows
returns-in-Err-clause-follows c =
    let before : Session = record {
      state = record {
        book = c.self.inside.book.book;
        changed = record { sheets = c.self.inside.changed_sheets.items; names = c.self.inside.changed_names };
        budget = c.self.inside.budget;
        searches = c.self.inside.searches.items;
      };
      tables = c.self.inside.book.tables;
    } in
    rw (← c.self.view_is) (
    name_refused before _ (ap (λ (k : KeptState). k.book) c.in-Err.ensures.1) (ap (λ (k : KeptState). k.tables) c.in-Err.ensures.1) c.args.sheet.now c.args.name.now c.args.text.now c.in-Err.fault
    c.told_fault.result c.told_fault.ensures.told
    )
