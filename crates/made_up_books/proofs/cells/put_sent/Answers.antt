use Rattle.std.proofs.Common.{refl, sym, ℕ, ◌≤◌, ◌+◌, length, arith}
use Rattle.std.specs.Prelude.{codes}
use Rattle.made_up_books.specs.MadeUp.{at}
use Rattle.made_up_books.specs.Putting.{sent_row}
use Rattle.made_up_books.proofs.InTurn.{listed_after, no_cells, rows_go_on}
use Rattle.made_up_books.proofs.Room.{in_row, texts_of_rows}
use Rattle.made_up_books.proofs.cells.put_sent.Goals as goal

pub loop-supplier-init : goal.loop-supplier-init
loop-supplier-init c = record { cells = sym (no_cells _); listed = c.requires.listed }

pub loop-supplier-preserved : goal.loop-supplier-preserved
loop-supplier-preserved c = record {
  cells = rows_go_on (sent_row c.args.size) c.args.book.now c.loop-supplier.book _ c.loop-supplier.supplier _ c.loop-supplier.invariant.cells c.in_ok-put_sent_row.ensures refl;
  listed = listed_after c.loop-supplier.book _ _ c.in_ok-put_sent_row.ensures c.loop-supplier.invariant.listed;
}

pub put_sent_row-requires-clause-room : goal.put_sent_row-requires-clause-room
put_sent_row-requires-clause-room c =
    let each : (i : ℕ) → length (sent_row c.args.size i) ≤ 12 = (λ i. let a = in_row (λ j. at (c.args.size + i) j (codes "0")) c.args.size in omega (arith, c.requires.few)) in
    let a = texts_of_rows (sent_row c.args.size) 12 c.loop-supplier.supplier _ _ each c.loop-supplier.invariant.cells in
    omega (arith, c.requires.room, c.requires.few)
