use Rattle.std.proofs.Common.{◌+◌, refl, sym, arith}
use Rattle.made_up_books.specs.Putting.{supply_pair}
use Rattle.made_up_books.proofs.InTurn.{listed_after, no_cells, rows_go_on}
use Rattle.made_up_books.proofs.Room.{texts_of_rows}
use Rattle.made_up_books.proofs.cells.put_supplies.Goals as goal

pub loop-supplier-init : goal.loop-supplier-init
loop-supplier-init c = record { cells = sym (no_cells _); listed = c.requires.listed }

pub loop-supplier-preserved : goal.loop-supplier-preserved
loop-supplier-preserved c = record {
  cells = rows_go_on (λ i. supply_pair c.args.size (c.args.size + i)) c.args.book.now c.loop-supplier.book _ c.loop-supplier.supplier _ c.loop-supplier.invariant.cells c.in_ok-put_supply.ensures refl;
  listed = listed_after c.loop-supplier.book _ _ c.in_ok-put_supply.ensures c.loop-supplier.invariant.listed;
}

pub put_supply-requires-clause-room : goal.put_supply-requires-clause-room
put_supply-requires-clause-room c =
    let a = texts_of_rows (λ i. supply_pair c.args.size (c.args.size + i)) 2 c.loop-supplier.supplier _ _ (λ i. omega arith) c.loop-supplier.invariant.cells in
    omega (arith, c.requires.room, c.requires.few)
