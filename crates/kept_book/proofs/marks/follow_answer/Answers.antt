use Rattle.std.proofs.Common.{List, subst, sym}
use Rattle.cell_refs.specs.declared.cell.Cell.{Cell}
use Rattle.kept_book.specs.Inner.{WereKept}
use Rattle.kept_book.specs.Kept.{IsFollowed}
use Rattle.kept_book.proofs.marks.follow_answer.Goals as goal

pub follow-requires : goal.follow-requires
follow-requires c = subst (λ (cells : List Cell). WereKept cells c.args.references.now c.args.tables.now c.args.book.now) (sym c.written.ensures) c.requires

pub returns-clause-followed : goal.returns-clause-followed
returns-clause-followed c before =
    subst
    (λ (cells : List Cell). IsFollowed c.follow.result cells (record { book = before; tables = c.args.tables.now }) (record { book = c.args.book.now; tables = c.follow.new.tables }))
    c.written.ensures
    (c.follow.ensures.followed before)
