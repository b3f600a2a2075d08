use Rattle.std.proofs.Common.{◌∙◌, ap, arith, flat_map, Some}
use Rattle.cell_refs.specs.Areas.{cells_of}
use Rattle.cell_grids.proofs.AreaCells.{some_in_all}
use Rattle.evaluation.proofs.Elements.{column_is, elements_count}
use Rattle.evaluation.proofs.values.column_grid.Goals as goal

pub in_grid-requires-clause-some_rows : goal.in_grid-requires-clause-some_rows
in_grid-requires-clause-some_rows g c =
    let known = g.C.Cells.known c.args.cells.now in
    let count = elements_count known (flat_map cells_of c.args.areas.now) c.in-Some.values.items (rw c.in-Some.is at c.in_ok-values.ensures) in
    let some = some_in_all c.args.areas.now c.requires in
    omega (arith, c.in-Ok.ensures, c.len.ensures, count, some)

pub returns : goal.returns
returns g c =
    let known = g.C.Cells.known c.args.cells.now in
    ap Some c.in_grid.ensures
    ∙ column_is known (flat_map cells_of c.args.areas.now) c.in-Ok.rows c.in-Some.values.items (rw c.in-Some.is at c.in_ok-values.ensures) (omega (arith, c.in-Ok.ensures.1, c.len.ensures))
