use Rattle.std.proofs.Common.{◌*◌, ap, ◌∙◌, arith}
use Rattle.made_up_books.specs.MadeUp.{sum_of}
use Rattle.made_up_books.proofs.InTurn.{listed_after, two_cells}
use Rattle.made_up_books.proofs.Room.{texts_after}
use Rattle.made_up_books.proofs.cells.put_demand.Goals as goal

pub put_number-requires-clause-listed : goal.put_number-requires-clause-listed
put_number-requires-clause-listed c = listed_after _ _ _ c.in_ok-put.ensures c.requires.listed

pub put_number-requires-clause-room : goal.put_number-requires-clause-room
put_number-requires-clause-room c = let a = texts_after _ _ _ c.in_ok-put.ensures in omega (arith, c.requires.room)

pub returns : goal.returns
returns c =
    let text = c.deref-2.ensures ∙ c.in_ok-sum.ensures.text ∙ ap sum_of (c.deref.ensures ∙ c.in_ok-sent.ensures.text) in
    two_cells c.args.book.now _ _ (2 * c.args.size) c.args.col _ _ _ text c.in_ok-put.ensures c.in_ok-put_number.ensures
