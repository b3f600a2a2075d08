use Rattle.std.proofs.Common.{refl, arith, flat_map}
use Rattle.sheet_funcs.specs.Picks.{from_to}
use Rattle.recalculation.specs.Looks.{cell_in}
use Rattle.cell_grids.proofs.LookRows.{range_part_more}
use Rattle.cell_grids.proofs.picked.push_picked.Goals as goal

pub loop-row-preserved : goal.loop-row-preserved
loop-row-preserved c =
    range_part_more (λ row. flat_map (λ column. cell_in c.args.grid.now row column) (from_to c.in-Part.left c.in-Part.right)) c.args.to.now.items c.loop-row.to.items c.push_row.new.to.items _ c.in-Part.top c.loop-row.row (omega arith) c.loop-row.invariant
    c.in_ok-push_row.ensures refl
