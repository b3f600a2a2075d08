use Rattle.std.proofs.Common.{◌≡◌, ◌∙◌, ap, arith}
use Rattle.solver_names.specs.Counts.{cell_of, is_covered}
use Rattle.solver_names.proofs.ColumnRows.{free_below, free_behind, free_found, free_from, free_open, in_order}
use Rattle.solver_names.proofs.columns.free_row.Goals as goal

pub returns-clause-from : goal.returns-clause-from
returns-clause-from c =
    let is = free_found c.args.areas.now c.loop-area.area-index c.args.sheet.0 c.args.col c.loop-area.row _ c.loop-area-test.false c.loop-area.invariant in
    omega (arith, is, free_below c.args.areas.now c.args.sheet.0 c.args.col c.args.first)

pub returns-clause-had : goal.returns-clause-had
returns-clause-had c row from before =
    let is : c.loop-area.row ≡ free_from c.args.areas.now c.args.sheet.0 c.args.col c.args.first =
    free_found c.args.areas.now c.loop-area.area-index c.args.sheet.0 c.args.col c.loop-area.row _ c.loop-area-test.false c.loop-area.invariant in
    free_behind c.args.areas.now c.args.sheet.0 c.args.col c.args.first row from (omega (arith, is, before))

pub returns-clause-lacks : goal.returns-clause-lacks
returns-clause-lacks c =
    ap (λ row. is_covered c.args.areas.now (cell_of c.args.sheet.0 c.args.col row))
    (free_found c.args.areas.now c.loop-area.area-index c.args.sheet.0 c.args.col c.loop-area.row _ c.loop-area-test.false c.loop-area.invariant)
    ∙ free_open c.args.areas.now c.args.sheet.0 c.args.col c.args.first (in_order c.args.areas.now c.requires.rising)
