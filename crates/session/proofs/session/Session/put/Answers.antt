use Rattle.std.proofs.Common.{[], ◌∷◌, Result, ap, subst}
use Rattle.kept_book.specs.Kept.{IsFollowed, KeptState}
use Rattle.session.specs.States.{Session}
use Rattle.session.proofs.Editing.{edit_refused, once_put}
use Rattle.session.proofs.session.Session.put.Goals as goal

pub returns-in_ok-kept-in-Ok-clause-follows : goal.returns-in_ok-kept-in-Ok-clause-follows
returns-in_ok-kept-in-Ok-clause-follows c =
    let before : Session = record {
      state = record {
        book = c.self.inside.book.book;
        changed = record { sheets = c.self.inside.changed_sheets.items; names = c.self.inside.changed_names };
        budget = c.self.inside.budget;
        searches = c.self.inside.searches.items;
      };
      tables = c.self.inside.book.tables;
    } in
    rw (← c.self.view_is) (
    once_put before _ c.args.cell c.args.text.now c.in-Ok.ensures.0.1
    (subst (λ (k : Result _ _). IsFollowed k (c.args.cell ∷ []) c.self.inside.book c.set.new.self) c.in_ok-kept-in-Ok.was c.in-Ok.ensures.1)
    )

pub returns-in-Err-clause-follows : goal.returns-in-Err-clause-follows
returns-in-Err-clause-follows c =
    let before : Session = record {
      state = record {
        book = c.self.inside.book.book;
        changed = record { sheets = c.self.inside.changed_sheets.items; names = c.self.inside.changed_names };
        budget = c.self.inside.budget;
        searches = c.self.inside.searches.items;
      };
      tables = c.self.inside.book.tables;
    } in
    rw (← c.self.view_is) (
    edit_refused before _ (ap (λ (k : KeptState). k.book) c.in-Err.ensures.1) (ap (λ (k : KeptState). k.tables) c.in-Err.ensures.1) c.args.cell c.in-Err.fault c.told_fault.result
    c.told_fault.ensures.told
    )
