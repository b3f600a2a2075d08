use Rattle.std.proofs.Common.{List, subst, sym}
use Rattle.cell_refs.specs.declared.cell.Cell.{Cell}
use Rattle.solver_names.specs.Answers.{statement_of}
use Rattle.sheet_solving.specs.FromSheetLinearModel.{IsPrepared}
use Rattle.kept_book.specs.Kept.{IsFollowed, KeptState, written_cells}
use Rattle.kept_book.proofs.Stays.{Stay, once_sliced}
use Rattle.kept_book.proofs.kept_book.KeptBook.slice.Goals as goal

pub slice-requires-clause-prepared : goal.slice-requires-clause-prepared
slice-requires-clause-prepared g c =
    let p = c.requires.prepared in
    (p.0, p.1, subst (λ (k : KeptState). IsPrepared k.book p.0 p.1) (sym c.self.view_is) p.2, p.3, p.4)

pub follow_answer-followed-requires : goal.follow_answer-followed-requires
follow_answer-followed-requires g c = (
  c.self.inside.book,
  c.self.invariant,
  subst (λ (cells : List Cell). Stay (written_cells c.in_ok-answer.answer cells) c.self.inside.book c.slice.new.book) (sym c.cells-cells.ensures)
      (once_sliced _ c.self.inside.book c.slice.new.book (statement_of c.args.statement.now) c.args.search.now.model c.in_ok-answer.answer c.slice.new.search c.in_ok-answer.ensures.slices),
)

pub returns-clause-follows : goal.returns-clause-follows
returns-clause-follows g c =
    rw (← c.self.view_is)
    (subst
    (λ (cells : List Cell). IsFollowed c.follow_answer-followed.result (written_cells c.in_ok-answer.answer cells) (record { book = c.self.inside.book; tables = c.self.inside.tables }) (record { book = c.slice.new.book; tables = c.follow_answer-followed.new.tables }))
    c.cells-cells.ensures
    (c.follow_answer-followed.ensures.followed c.self.inside.book))
