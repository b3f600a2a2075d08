use Rattle.std.proofs.Common.{inr, ◌≤◌, ◌∙◌, List, ap, subst, sym}
use Rattle.cell_refs.specs.declared.cell.Cell.{Cell}
use Rattle.search_bounds.specs.Enough.{enough_for}
use Rattle.session.specs.Solves.{with_written}
use Rattle.session.specs.States.{Session, SessionState, with_book}
use Rattle.session.proofs.session.Session.search.Goals as goal

pub returns-in-Ok-clause-step : goal.returns-in-Ok-clause-step
returns-in-Ok-clause-step g c =
    let before : SessionState = record {
      book = c.self.inside.book.book;
      changed = record { sheets = c.self.inside.changed_sheets.items; names = c.self.inside.changed_names };
      budget = c.self.inside.budget;
      searches = c.self.inside.searches.items;
    } in
    rw (← c.self.view_is) (
      c.solve.new.self.book,
      c.in_ok-answer.ensures.solves,
      c.mark_written.ensures.state ∙ ap (λ (cells : List Cell). with_written c.in_ok-answer.answer cells (with_book before c.solve.new.self.book)) c.in_ok-adj.ensures,
    )

pub returns-in-Ok-clause-enough : goal.returns-in-Ok-clause-enough
returns-in-Ok-clause-enough g c b l = c.in_ok-answer.ensures.enough b (subst (λ (x : Session). enough_for c.args.prepared.model ≤ x.state.budget) (sym c.self.view_is) l)

pub returns-clause-memory : goal.returns-clause-memory
returns-clause-memory g c =
    let before : SessionState = record {
      book = c.self.inside.book.book;
      changed = record { sheets = c.self.inside.changed_sheets.items; names = c.self.inside.changed_names };
      budget = c.self.inside.budget;
      searches = c.self.inside.searches.items;
    } in
    rw (← c.self.view_is) (inr (
      c.in_ok-answer.answer,
      (
        c.solve.new.self.book,
        c.in_ok-answer.ensures.solves,
        c.mark_written.ensures.state ∙ ap (λ (cells : List Cell). with_written c.in_ok-answer.answer cells (with_book before c.solve.new.self.book)) c.in_ok-adj.ensures,
      ),
    ))
