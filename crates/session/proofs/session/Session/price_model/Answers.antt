use Rattle.std.proofs.Common.{subst, sym}
use Rattle.sheet_linear_model.specs.Answers.{prepared_of}
use Rattle.sheet_linear_model.specs.Prepared.{IsPrepared}
use Rattle.session.specs.States.{Session, SessionState}
use Rattle.session.proofs.Priced.{all_priced}
use Rattle.session.proofs.Said.{if_ok_map}
use Rattle.session.proofs.session.Session.price_model.Goals as goal

pub price_rows-requires : goal.price_rows-requires
price_rows-requires c = (c.args.self.now.state.book, c.args.sheet.0, c.requires.prepared)

pub returns-clause-step : goal.returns-clause-step
returns-clause-step c =
    let state : SessionState = record {
      book = c.self.inside.book.book;
      changed = record { sheets = c.self.inside.changed_sheets.items; names = c.self.inside.changed_names };
      budget = c.self.inside.budget;
      searches = c.self.inside.searches.items;
    } in
    rw (← c.self.view_is) (all_priced state c.args.sheet.0 (prepared_of c.args.of) c.price_rows.result (subst (λ (s : Session). IsPrepared s.state.book c.args.sheet.0 (prepared_of c.args.of)) (sym c.self.view_is) c.requires.prepared) c.price_rows.ensures.prices c.price_rows.ensures.truth)

pub returns-clause-said : goal.returns-clause-said
returns-clause-said c = if_ok_map c.price_rows.result _ _ (λ a h. h c.args.self.now.state.book.sheets c.requires.whole.decisions) c.price_rows.ensures.said
