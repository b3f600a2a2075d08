use Rattle.std.proofs.Common.{List, subst, sym}
use Rattle.cell_refs.specs.declared.cell.Cell.{Cell}
use Rattle.workbook.specs.Naming.{SayOtherwise}
use Rattle.kept_book.proofs.Stays.{once_named}
use Rattle.kept_book.proofs.kept_book.KeptBook.name.Goals as goal

pub follow-requires : goal.follow-requires
follow-requires c =
    let told = subst (λ (cells : List Cell). SayOtherwise c.self.inside.book c.name.new.self cells) (sym c.deref.ensures.value) c.in_ok-cells.ensures.2 in
    (c.self.inside.book, c.self.invariant, once_named c.self.inside.book c.name.new.self c.deref.result.now told)

pub returns : goal.returns
returns c =
    let told = subst (λ (cells : List Cell). SayOtherwise c.self.inside.book c.name.new.self cells) (sym c.deref.ensures.value) c.in_ok-cells.ensures.2 in
    rw (← c.self.view_is) (c.deref.result.now, c.in_ok-cells.ensures.0, c.in_ok-cells.ensures.1, told, c.follow.ensures.followed c.self.inside.book)
