use Rattle.std.proofs.Common.{◌∙◌, arith}
use Rattle.made_up_books.proofs.InTurn.{listed_after_names, three_names}
use Rattle.made_up_books.proofs.Room.{names_after_names}
use Rattle.made_up_books.proofs.names.name_demands.Goals as goal

pub name-requires-2-clause-listed : goal.name-requires-2-clause-listed
name-requires-2-clause-listed c = listed_after_names _ _ _ c.in_ok-name.ensures c.requires.listed

pub name-requires-3-clause-listed : goal.name-requires-3-clause-listed
name-requires-3-clause-listed c = listed_after_names _ _ _ c.in_ok-name-2.ensures (listed_after_names _ _ _ c.in_ok-name.ensures c.requires.listed)

pub name-requires-2-clause-room : goal.name-requires-2-clause-room
name-requires-2-clause-room c =
    let a = names_after_names _ _ _ c.in_ok-name.ensures in
    omega (arith, c.requires.room)

pub name-requires-3-clause-room : goal.name-requires-3-clause-room
name-requires-3-clause-room c =
    let a = names_after_names _ _ _ c.in_ok-name.ensures in
    let b = names_after_names _ _ _ c.in_ok-name-2.ensures in
    omega (arith, c.requires.room)

pub returns : goal.returns
returns c =
    three_names c.args.book.now _ _ _ _ _ _ _ _ _ _ _ (c.deref.ensures ∙ c.in_ok-got.ensures.text) (c.deref-2.ensures ∙ c.in_ok-demands.ensures.text)
    c.in_ok-name.ensures c.in_ok-name-2.ensures c.in_ok-name-3.ensures
