use Rattle.std.proofs.Common.{◌∙◌, Option, ap, refl, sym, ℕ}
use Rattle.std.specs.Prelude.{option_map}
use Rattle.cell_refs.specs.declared.cell.SheetId.{SheetId}
use Rattle.workbook.specs.State.{State}
use Rattle.kept_book.proofs.Follows.{is_none}
use Rattle.session.specs.States.{SessionState, with_book, with_names_changed}
use Rattle.commands.specs.declared.answer.Answer.TheVariants as answer
use Rattle.session.proofs.Naming.{never_err, no_memory}
use Rattle.session.proofs.Changed.{at_err}
use Rattle.session.proofs.Editing.{other_unname, unname_refused}
use Rattle.session.proofs.Stopping.{named_home, unname_stopped_at, unname_there}
use Rattle.session.proofs.session.Session.unname.Goals as goal

pub returns-in-Some-unname_fault-clause-memory : goal.returns-in-Some-unname_fault-clause-memory
returns-in-Some-unname_fault-clause-memory c =
    never_err c.told_fault.result _ _ (no_memory c.args.name.now c.in-Some-unname_fault.fault c.in-Some-unname_fault.ensures) c.told_fault.ensures.memory

pub returns-in_default-clause-follows : goal.returns-in_default-clause-follows
returns-in_default-clause-follows c = other_unname c.args.self.now c.args.self.now refl refl c.args.sheet.now c.args.name.now answer.UnknownSheet tt

pub returns-in-Some-unname_fault-clause-follows : goal.returns-in-Some-unname_fault-clause-follows
returns-in-Some-unname_fault-clause-follows c =
    unname_refused c.args.self.now c.args.self.now refl refl c.args.sheet.now c.args.name.now c.in-Some-unname_fault.fault c.told_fault.result c.told_fault.ensures.told

pub returns-in_err-kept-2-clause-memory : goal.returns-in_err-kept-2-clause-memory
returns-in_err-kept-2-clause-memory c =
    let before : SessionState = record {
      book = c.self.inside.book.book;
      changed = record { sheets = c.self.inside.changed_sheets.items; names = c.self.inside.changed_names };
      budget = c.self.inside.budget;
      searches = c.self.inside.searches.items;
    } in
    let home : Option ℕ = option_map (λ (s : SheetId). s.0) c.in-Some.home in
    let there = named_home c.sheets.result.now before.book.sheets c.args.sheet.now home c.in-Some.ensures.sheet c.sheets.ensures in
    rw (← c.self.view_is) (
    at_err c.from_residual-in_err-kept-2.result _
    (unname_stopped_at before _ c.args.sheet.now c.args.name.now home
    (unname_there before.book c.args.sheet.now c.args.name.now home there (sym c.unname_fault.ensures ∙ is_none c.unname_fault.result (λ x e. c.in_default-unname_fault.not-Some x e)))
    (ap (λ (b : State). with_names_changed (with_book before b)) c.in_ok-kept.ensures.1))
    )
