use Rattle.std.proofs.Common.{◌≡◌, ◌<◌, length, ap, arith}
use Rattle.workbook.specs.State.{State}
use Rattle.made_up_books.proofs.InTurn.{listed_after, listed_after_names}
use Rattle.made_up_books.proofs.Room.{names_after_names, no_names, room_at_first}
use Rattle.made_up_books.proofs.Whole.{blank, whole_is}
use Rattle.made_up_books.proofs.made_up.Goals as goal

listed_at_first : (book : State) → book ≡ blank → 0 < length book.sheets
listed_at_first book e = let one = ap (λ (s : State). length s.sheets) e in omega arith

pub put_cells-requires-clause-listed : goal.put_cells-requires-clause-listed
put_cells-requires-clause-listed c = listed_at_first _ c.in_ok-book.ensures

pub name_objective-requires-clause-listed : goal.name_objective-requires-clause-listed
name_objective-requires-clause-listed c = listed_after _ _ _ c.in_ok-put_cells.ensures (listed_at_first _ c.in_ok-book.ensures)

pub name_supplies-requires-clause-listed : goal.name_supplies-requires-clause-listed
name_supplies-requires-clause-listed c = listed_after_names _ _ _ c.in_ok-name_objective.ensures (listed_after _ _ _ c.in_ok-put_cells.ensures (listed_at_first _ c.in_ok-book.ensures))

pub name_demands-requires-clause-listed : goal.name_demands-requires-clause-listed
name_demands-requires-clause-listed c = listed_after_names _ _ _ c.in_ok-name_supplies.ensures (listed_after_names _ _ _ c.in_ok-name_objective.ensures (listed_after _ _ _ c.in_ok-put_cells.ensures (listed_at_first _ c.in_ok-book.ensures)))

pub put_cells-requires-clause-room : goal.put_cells-requires-clause-room
put_cells-requires-clause-room c = room_at_first _ c.in_ok-book.ensures

pub name_objective-requires-clause-room : goal.name_objective-requires-clause-room
name_objective-requires-clause-room c =
    let a = no_names _ _ _ c.in_ok-book.ensures c.in_ok-put_cells.ensures in
    omega arith

pub name_supplies-requires-clause-room : goal.name_supplies-requires-clause-room
name_supplies-requires-clause-room c =
    let a = no_names _ _ _ c.in_ok-book.ensures c.in_ok-put_cells.ensures in
    let b = names_after_names _ _ _ c.in_ok-name_objective.ensures in
    omega arith

pub name_demands-requires-clause-room : goal.name_demands-requires-clause-room
name_demands-requires-clause-room c =
    let a = no_names _ _ _ c.in_ok-book.ensures c.in_ok-put_cells.ensures in
    let b = names_after_names _ _ _ c.in_ok-name_objective.ensures in
    let d = names_after_names _ _ _ c.in_ok-name_supplies.ensures in
    omega arith

pub returns : goal.returns
returns c =
    whole_is c.from-size.result c.args.size _ _ _ _ _ c.from-size.ensures c.in_ok-book.ensures c.in_ok-put_cells.ensures
    c.in_ok-name_objective.ensures c.in_ok-name_supplies.ensures c.in_ok-name_demands.ensures
