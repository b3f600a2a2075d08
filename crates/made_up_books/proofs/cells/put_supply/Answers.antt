use Rattle.std.proofs.Common.{ap, ◌∙◌, arith}
use Rattle.made_up_books.specs.MadeUp.{sum_of}
use Rattle.made_up_books.proofs.InTurn.{listed_after, two_cells}
use Rattle.made_up_books.proofs.Room.{texts_after}
use Rattle.made_up_books.proofs.cells.put_supply.Goals as goal

pub put-requires-2-clause-listed : goal.put-requires-2-clause-listed
put-requires-2-clause-listed c = listed_after _ _ _ c.in_ok-put.ensures c.requires.listed

pub returns : goal.returns
returns c =
    let text = c.deref-2.ensures ∙ c.in_ok-sum.ensures.text ∙ ap sum_of (c.deref.ensures ∙ c.in_ok-sent.ensures.text) in
    two_cells c.args.book.now _ _ c.args.row c.args.size _ _ _ text c.in_ok-put.ensures c.in_ok-put-2.ensures

pub put-requires-2-clause-room : goal.put-requires-2-clause-room
put-requires-2-clause-room c = let a = texts_after _ _ _ c.in_ok-put.ensures in omega (arith, c.requires.room)
