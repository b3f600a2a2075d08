use Rattle.std.proofs.Common.{arith, sym, ap, ◌∙◌, flat_map}
use Rattle.sheet_funcs.proofs.Ranges.{all_below, parts_go}
use Rattle.form_areas.specs.Matrices.{column_of}
use Rattle.form_areas.proofs.Placed.{transposed-columns}
use Rattle.form_table.specs.Wanted.{grid_of}
use Rattle.form_areas.proofs.matrices.transposed_items.Goals as goal

pub loop-column-init : goal.loop-column-init
loop-column-init c =
    let g = grid_of c.args.arg.now in
    rw c.new-items.ensures.items (transposed-columns g ∙ ap (flat_map (column_of g)) (sym (all_below g.columns)))

pub loop-column-preserved : goal.loop-column-preserved
loop-column-preserved c =
    let g = grid_of c.args.arg.now in
    parts_go (column_of g) _ c.loop-column.items.items c.push_column.new.items.items c.loop-column.column g.columns (omega (arith, c.columns_of-column-end.ensures, c.loop-column-test.true)) c.loop-column.invariant
    c.in_ok-push_column.ensures
