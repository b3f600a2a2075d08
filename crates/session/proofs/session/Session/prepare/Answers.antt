use Rattle.std.proofs.Common.{◌∙◌, rules}
use Rattle.sheet_linear_model.specs.FromKeptForms.{is_searching}
use Rattle.session.specs.States.{Session}
use Rattle.session.proofs.Keeping.{follows_prepared, searching_is}
use Rattle.session.proofs.session.Session.prepare.Goals as goal

pub returns-clause-follows : goal.returns-clause-follows
returns-clause-follows g c =
    let before : Session = record {
      state = record {
        book = c.self.inside.book.book;
        changed = record { sheets = c.self.inside.changed_sheets.items; names = c.self.inside.changed_names };
        budget = c.self.inside.budget;
        searches = c.self.inside.searches.items;
      };
      tables = c.self.inside.book.tables;
    } in
    let after : Session = record {
      state = record {
        book = c.prepare.new.self.book;
        changed = record { sheets = c.self.inside.changed_sheets.items; names = c.self.inside.changed_names };
        budget = c.self.inside.budget;
        searches = c.self.inside.searches.items;
      };
      tables = c.prepare.new.self.tables;
    } in
    rw (← c.self.view_is) (
    follows_prepared before after (is_searching c.deref-2.result.now) (searching_is before.state c.deref-2.result.now (c.deref-2.ensures.value ∙ (c.in_ok-searching.ensures ∙ search rules)))
    c.prepare.ensures.same c.args.sheet.0 c.prepare.result c.prepare.ensures.settles
    )
