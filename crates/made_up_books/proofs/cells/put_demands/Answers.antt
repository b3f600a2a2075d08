use Rattle.std.proofs.Common.{◌≡◌, sym, ap, ◌∙◌, arith}
use Rattle.std.specs.List.{flat_map}
use Rattle.std.specs.Prelude.{slice_index}
use Rattle.made_up_books.specs.MadeUp.{below}
use Rattle.made_up_books.specs.Putting.{demand_pair, demand_pairs, with_cells}
use Rattle.made_up_books.proofs.InTurn.{listed_after, no_cells, rows_go_on}
use Rattle.made_up_books.proofs.Room.{texts_of_rows}
use Rattle.made_up_books.proofs.cells.put_demands.Goals as goal

pub loop-col-init : goal.loop-col-init
loop-col-init c = record { cells = sym (no_cells _); listed = c.requires.listed }

pub loop-col-preserved : goal.loop-col-preserved
loop-col-preserved c = record {
  cells = rows_go_on (λ j. demand_pair c.args.size j (slice_index c.args.demands.now j)) c.args.book.now c.loop-col.book _ c.loop-col.col _ c.loop-col.invariant.cells c.in_ok-put_demand.ensures (ap (λ k. demand_pair c.args.size c.loop-col.col (slice_index c.args.demands.now k)) c.from.ensures);
  listed = listed_after c.loop-col.book _ _ c.in_ok-put_demand.ensures c.loop-col.invariant.listed;
}

pub returns : goal.returns
unfolding demand_pairs
returns c =
    let whole : c.loop-col.col ≡ c.args.size = omega arith in
    c.loop-col.invariant.cells
    ∙ ap (λ k. with_cells c.args.book.now (flat_map (λ j. demand_pair c.args.size j (slice_index c.args.demands.now j)) (below k))) whole

pub put_demand-requires-clause-room : goal.put_demand-requires-clause-room
put_demand-requires-clause-room c =
    let a = texts_of_rows (λ j. demand_pair c.args.size j (slice_index c.args.demands.now j)) 2 c.loop-col.col _ _ (λ j. omega arith) c.loop-col.invariant.cells in
    omega (arith, c.requires.room, c.requires.few)
