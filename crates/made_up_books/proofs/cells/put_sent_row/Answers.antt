use Rattle.std.proofs.Common.{◌+◌, refl, sym, ◌+◌, arith}
use Rattle.std.specs.Prelude.{codes}
use Rattle.made_up_books.specs.MadeUp.{at}
use Rattle.made_up_books.proofs.InTurn.{listed_after, no_cells, row_goes_on}
use Rattle.made_up_books.proofs.Room.{texts_of_row}
use Rattle.made_up_books.proofs.cells.put_sent_row.Goals as goal

pub loop-col-init : goal.loop-col-init
loop-col-init c = record { cells = sym (no_cells _); listed = c.requires.listed }

pub loop-col-preserved : goal.loop-col-preserved
loop-col-preserved c = record {
  cells = row_goes_on (λ j. at (c.args.size + c.args.supplier) j (codes "0")) c.args.book.now c.loop-col.book _ c.loop-col.col _ c.loop-col.invariant.cells c.in_ok-put.ensures refl;
  listed = listed_after c.loop-col.book _ _ c.in_ok-put.ensures c.loop-col.invariant.listed;
}

pub put-requires-clause-room : goal.put-requires-clause-room
put-requires-clause-room c =
    let a = texts_of_row _ c.loop-col.col _ _ c.loop-col.invariant.cells in
    omega (arith, c.requires.room, c.requires.few)
