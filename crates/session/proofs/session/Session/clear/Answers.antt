use Rattle.std.proofs.Common.{◌≡◌, ◌∙◌, List, Ok, [], ap, refl, subst, sym, ℕ}
use Rattle.commands.specs.Lines.{CanBeSaid}
use Rattle.commands.specs.Locating.{cell_named}
use Rattle.session.specs.States.{Session}
use Rattle.session.proofs.Editing.{clear_follows, named_other, once_put, other_clear}
use Rattle.session.proofs.Said.{named_said}
use Rattle.session.proofs.session.Session.clear.Goals as goal

pub returns-in-Err-clause-said : goal.returns-in-Err-clause-said
returns-in-Err-clause-said c =
    let named = c.in-Err.ensures.named in
    rw (← c.self.view_is) (subst (λ (sheets : List (List ℕ)). CanBeSaid sheets c.in-Err.answer) c.sheets.ensures (named_said c.sheets.result.now c.args.address.now c.in-Err.answer named))

pub returns-in-Ok-clause-follows : goal.returns-in-Ok-clause-follows
returns-in-Ok-clause-follows c =
    let before : Session = record {
      state = record {
        book = c.self.inside.book.book;
        changed = record { sheets = c.self.inside.changed_sheets.items; names = c.self.inside.changed_names };
        budget = c.self.inside.budget;
        searches = c.self.inside.searches.items;
      };
      tables = c.self.inside.book.tables;
    } in
    let named : cell_named c.self.inside.book.book.sheets c.args.address.now ≡ Ok c.in-Ok.cell = ap (λ (s : List (List ℕ)). cell_named s c.args.address.now) (sym c.sheets.ensures) ∙ sym c.in-Ok.ensures.named in
    rw (← c.self.view_is) (clear_follows before _ c.args.address.now c.in-Ok.cell named (once_put before _ c.in-Ok.cell [] c.clear.ensures.book c.clear.ensures.marked))

pub returns-in-Err-clause-follows : goal.returns-in-Err-clause-follows
returns-in-Err-clause-follows c = other_clear c.args.self.now c.args.self.now refl refl c.args.address.now c.in-Err.answer (named_other c.sheets.result.now c.args.address.now c.in-Err.answer c.in-Err.ensures.named)
