use Rattle.std.proofs.Common.{◌∙◌, List, subst, sym}
use Rattle.cell_refs.specs.declared.cell.Cell.{Cell}
use Rattle.solver_names.specs.Answers.{statement_of}
use Rattle.kept_book.specs.Kept.{IsFollowed, written_cells}
use Rattle.kept_book.proofs.Stays.{Stay, once_solved}
use Rattle.kept_book.proofs.kept_book.KeptBook.solve.Goals as goal

pub follow_answer-followed-requires : goal.follow_answer-followed-requires
follow_answer-followed-requires g c = (
  c.self.inside.book,
  c.self.invariant,
  subst (λ (cells : List Cell). Stay (written_cells c.in_ok-answer.answer cells) c.self.inside.book c.solve.new.book) (sym (c.cells-cells.ensures ∙ c.in_ok-decisions.ensures))
      (once_solved _ c.self.inside.book c.solve.new.book (statement_of c.args.of.statement) c.args.of.model c.in_ok-answer.answer c.in_ok-answer.ensures.solves),
)

pub returns-clause-follows : goal.returns-clause-follows
returns-clause-follows g c =
    rw (← c.self.view_is)
    (subst
    (λ (cells : List Cell). IsFollowed c.follow_answer-followed.result (written_cells c.in_ok-answer.answer cells) (record { book = c.self.inside.book; tables = c.self.inside.tables }) (record { book = c.solve.new.book; tables = c.follow_answer-followed.new.tables }))
    (c.cells-cells.ensures ∙ c.in_ok-decisions.ensures)
    (c.follow_answer-followed.ensures.followed c.self.inside.book))
