use Rattle.std.proofs.Common.{◌≡◌, refl, sym, ap, ◌∙◌, arith, ℕ, ◌≤◌, ◌+◌, length}
use Rattle.std.specs.Prelude.{◌*◌, decimal, slice_index}
use Rattle.std.specs.List.{flat_map}
use Rattle.made_up_books.specs.MadeUp.{at, below}
use Rattle.made_up_books.specs.Putting.{number_cells, number_row, with_cells}
use Rattle.made_up_books.proofs.InTurn.{listed_after, no_cells, rows_go_on}
use Rattle.made_up_books.proofs.Room.{in_row, texts_of_rows}
use Rattle.made_up_books.proofs.cells.put_costs.Goals as goal

pub loop-row-init : goal.loop-row-init
loop-row-init c = record { cells = sym (no_cells _); listed = c.requires.listed }

pub loop-row-preserved : goal.loop-row-preserved
loop-row-preserved c = record {
  cells = rows_go_on (number_row c.args.size c.args.costs.now) c.args.book.now c.loop-row.book _ c.loop-row.row _ c.loop-row.invariant.cells c.in_ok-put_cost_row.ensures refl;
  listed = listed_after c.loop-row.book _ _ c.in_ok-put_cost_row.ensures c.loop-row.invariant.listed;
}

pub returns : goal.returns
unfolding number_cells
returns c =
    let whole : c.loop-row.row ≡ c.args.size = omega arith in
    c.loop-row.invariant.cells ∙ ap (λ k. with_cells c.args.book.now (flat_map (number_row c.args.size c.args.costs.now) (below k))) whole

pub put_cost_row-requires-clause-room : goal.put_cost_row-requires-clause-room
put_cost_row-requires-clause-room c =
    let each : (i : ℕ) → length (number_row c.args.size c.args.costs.now i) ≤ 12 = (λ i. let a = in_row (λ j. at i j (decimal (slice_index c.args.costs.now (i * c.args.size + j)))) c.args.size in omega (arith, c.requires.few)) in
    let a = texts_of_rows (number_row c.args.size c.args.costs.now) 12 c.loop-row.row _ _ each c.loop-row.invariant.cells in
    omega (arith, c.requires.room, c.requires.few)
