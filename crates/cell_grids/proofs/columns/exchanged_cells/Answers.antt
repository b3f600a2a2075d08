use Rattle.std.proofs.Common.{◌≡◌, ◌∙◌, ap, sym, refl, [], arith, flat_map}
use Rattle.sheet_funcs.specs.Arguments.{below}
use Rattle.recalculation.specs.Evaluation.{CellGrid}
use Rattle.recalculation.specs.Looks.{column_cells}
use Rattle.cell_grids.proofs.LookRows.{below_more, exchanged_columns}
use Rattle.cell_grids.proofs.columns.exchanged_cells.Goals as goal

pub loop-column-preserved : goal.loop-column-preserved
loop-column-preserved c = below_more (column_cells c.args.grid.now) [] c.loop-column.cells.items c.push_column.new.to.items _ c.loop-column.column c.loop-column.invariant c.in_ok-push_column.ensures refl

pub returns : goal.returns
returns c =
    let g = c.args.grid.now in
    let size = ap (λ (h : CellGrid). h.columns) c.grid.view_is in
    let all : c.loop-column.column ≡ g.columns = omega (arith, size) in
    c.loop-column.invariant ∙ ap (λ n. flat_map (column_cells g) (below n)) all ∙ sym (exchanged_columns g)
