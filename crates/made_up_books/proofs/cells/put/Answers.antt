use Rattle.std.proofs.Common.{◌∙◌, arith}
use Rattle.made_up_books.proofs.InTurn.{one_cell}
use Rattle.made_up_books.proofs.NoFault.{no_set_fault}
use Rattle.made_up_books.proofs.cells.put.Goals as goal

pub returns-in-Ok : goal.returns-in-Ok
returns-in-Ok c = c.in-Ok.ensures.1 ∙ one_cell c.args.book.now c.args.row c.args.col c.args.text.now c.requires.some

pub unreachable-requires : goal.unreachable-requires
unreachable-requires c =
    let none = no_set_fault c.args.book.now c.args.row c.args.col c.args.text.now c.requires.row c.requires.col c.requires.some c.requires.short c.requires.room in
    let said = c.in-Err.ensures in
    grind (arith, none, said)
